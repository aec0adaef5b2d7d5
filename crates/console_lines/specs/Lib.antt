-- What a line says, from its items to its values; what the readers of lines ask and promise; and the laws that their proofs use.
pub mod Items
pub mod Words
pub mod Reasons
pub mod Judging
pub mod Says
pub mod Reading
pub mod Laws
pub mod Lines
