-- Powers, as the loops of this crate and of those above it carry them on.
pub mod Powers
