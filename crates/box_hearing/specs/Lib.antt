-- What only the contracts of the hearing name, and the laws that their proofs share.
pub mod Known
