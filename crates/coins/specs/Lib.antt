-- What only this crate's contracts name.
pub mod Asked
