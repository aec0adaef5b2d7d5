-- What only the contracts of the rows name.
pub mod Known
