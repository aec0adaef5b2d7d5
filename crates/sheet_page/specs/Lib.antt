-- What only the contracts here name.
pub mod Asked
