-- What only the proofs of the order name.
pub mod Known
