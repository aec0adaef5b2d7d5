-- What only the contracts here name, and the laws that the proofs share.
pub mod Reading
pub mod Laws
