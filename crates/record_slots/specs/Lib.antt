-- What only the contracts here name.
pub mod Found
