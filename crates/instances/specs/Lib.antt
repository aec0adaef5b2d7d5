-- Computed plays: those in which a sentence of document 01 with a number or an order in it is met, so that its breach is refused; and
-- an instance for each theorem of `Demands`: a life or a history that meets what it supposes, and in which something happens, so that none
-- is met by a useless box alone.
--
-- In order: each answer number; equal lists; parts of records; plays, one of them whole, and where counts tell; each row of the table on
-- its boundary; sound records, clause by clause. Histories replayed. A life in which all of demand 2 happens: its calls, what it comes to, what the theorems say of it, points
-- and shares of different boxes, its bytes, who is heard, a box of any make. A life with readies for another matrix; a class in which
-- what is sent is accepted; a class in which all boxes keep the rules; document 01's sheet. P9 out of the map of coins; a script for
-- demand 3, and its two runs; a set that answers to what it has seen.
pub mod EachNumber
pub mod SameLists
pub mod RecordParts
pub mod Plays
pub mod WholePlay
pub mod Counts
pub mod Boundaries
pub mod SoundRecords
pub mod SoundLast
pub mod Replay
pub mod Calls
pub mod Life
pub mod LifeSays
pub mod Boxes
pub mod Sent
pub mod Heard
pub mod AnyMake
pub mod OtherMatrix
pub mod Accepted
pub mod HonestClass
pub mod Sheets
pub mod Map
pub mod Script
pub mod Hidden
pub mod AnyStrategy
