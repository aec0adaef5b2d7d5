-- Why a sheet is bad, with the laws that the proofs share, and that a reason is said of the bad sheets and of no other.
pub mod Lines
pub mod Reasons
pub mod Agrees
