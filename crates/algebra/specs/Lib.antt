-- The mathematics of sharing a secret, on plain numbers with `%`: what contracts and document 01's definitions cite. Its laws, for any prime q and any k,
-- stand in proofs/.
pub mod Residues
pub mod Polynomials
pub mod Interpolation
