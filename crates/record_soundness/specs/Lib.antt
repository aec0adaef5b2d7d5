-- What the tests over the whole record name, and how they make the test of a sound record.
pub mod Clauses
pub mod Counts
pub mod Sound
