-- What the proofs of several functions use: the values that points give.
pub mod Values
