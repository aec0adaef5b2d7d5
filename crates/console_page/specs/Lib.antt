-- The lines that the contracts here name; the k of a message; then what follows for a call that sends, and lines
-- as examples.
pub mod Numerals
pub mod Answers
pub mod Reading
pub mod Widths
pub mod Sent
pub mod Examples
