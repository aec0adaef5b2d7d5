-- The points that are there, as an array: what only this crate's contracts name.
pub mod Points
