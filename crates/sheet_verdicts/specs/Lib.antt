-- What only the contracts here name.
pub mod Verdicts
pub mod Lines
