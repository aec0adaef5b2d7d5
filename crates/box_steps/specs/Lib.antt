-- What only the contracts of the steps name, and the laws that their proofs share.
pub mod Sender
pub mod Laws
