-- What contracts cite of the laws: the lengths of a record's arrays; what numbers, formed messages and calls past rows of the table keep to. The laws
-- themselves stand in proofs/Laws.
pub mod Shape
pub mod Numbers
pub mod RoundTrip
pub mod Passed
