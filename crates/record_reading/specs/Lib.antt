-- What the readers of slots name beside the definitions of `rules`.
pub mod Slots
