-- What the console says of a box, as definitions over its record.
pub mod Parts
pub mod Show
pub mod Points
pub mod Help
