-- The laws of the mathematics of sharing a secret, for any prime q and any k, on plain numbers with `%`.
-- In order: remainders and primes, inverses; powers; sums and products; polynomials; interpolation; commitments; what shares open.
pub mod Residues
pub mod Inverses
pub mod Fields
pub mod Powers
pub mod Sums
pub mod Polynomials
pub mod Factors
pub mod Interpolation
pub mod Commitments
pub mod Opening
