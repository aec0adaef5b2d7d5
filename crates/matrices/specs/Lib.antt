-- Filled arrays.
pub mod Filled
