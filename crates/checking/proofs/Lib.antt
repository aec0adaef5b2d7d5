-- What the proofs of several functions use.
pub mod Lines
pub mod Weights
