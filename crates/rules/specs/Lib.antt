-- Document 01 as definitions, in its order and its words: what a reader must believe stands in the first ten files, and
-- only there. Then the sums done by hand, and cases that pin a sentence with a number, a text or an order in it: sheets, bytes of
-- messages, the records of a set-up, numbers on their boundaries. Then what contracts cite of the laws, which stand in proofs/, with
-- the theorems on useless boxes.
pub mod Numbers
pub mod Matrices
pub mod Messages
pub mod Dealing
pub mod Record
pub mod Steps
pub mod Answers
pub mod Refusals
pub mod Text
pub mod Sheet
pub mod Computed
pub mod HandSums
pub mod SheetExample
pub mod SheetCases
pub mod MessageBytes
pub mod ZeroRecord
pub mod NumberCases
pub mod Laws
