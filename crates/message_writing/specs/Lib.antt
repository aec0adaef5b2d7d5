-- Parts of messages that only a writer names, and the laws that the writers' proofs share.
pub mod Written
pub mod Laws
