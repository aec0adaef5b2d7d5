-- Lemmas that the answers share.
pub mod Places
