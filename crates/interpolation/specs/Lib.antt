-- Points as an array, and the polynomials through them: what only this crate's contracts name.
pub mod Lagrange
pub mod Points
