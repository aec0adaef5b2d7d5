-- Folds over indices, and the laws of the loops that compute them. No number of the protocol stands here.
-- In order: tests and their joining; folds over the indices below a bound; arrays filled from the front; runs of bytes; loops;
-- needs of a function that one search answers.
pub mod Tests
pub mod Below
pub mod Stores
pub mod Runs
pub mod Loops
pub mod Found
pub mod Chains
