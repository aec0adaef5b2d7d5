-- What follows from the definitions. In order: the numbers; rows and matrices; the generators of a group, dealing, and the
-- checks; the table of refusals; demand 1; a sound record clause by clause, and as facts at each index; matrices that
-- agree; how long messages are, that reading and writing undo one another, and that what a box sends has room there; what holds of a call past rows of the table, and who is heard after a delivery; a new
-- record is sound; a sound record has room for all, and is kept sound by every call.
pub mod Numbers
pub mod Matrices
pub mod Generator
pub mod Dealing
pub mod Checks
pub mod Table
pub mod DemandOne
pub mod Clauses
pub mod Facts
pub mod Sound
pub mod Agreement
pub mod Lengths
pub mod RoundTrip
pub mod Ranges
pub mod Passed
pub mod Heard
pub mod New
pub mod Room
pub mod Kept
