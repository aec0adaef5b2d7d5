-- Lemmas that the answers share.
pub mod Finds
