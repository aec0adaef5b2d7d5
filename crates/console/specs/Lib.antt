-- What the functions of the console ask of a line.
pub mod Room
