-- A step as a value of the code, and what it has to do with a step of the rules.
pub mod Told
pub mod Takes
