-- What only the contracts of this crate name.
pub mod Anew
