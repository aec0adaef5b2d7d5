-- Demands 2 and 3, over `rules` and the mathematics alone. Open `Demands` first: it has each statement in full, and cites the rest.
-- In order: the statements, and what they name; laws of histories; a message to one box, and to each; dealing, checking and
-- interpolation; the life of one box, and of one of any make; what boxes that keep the rules send is accepted; a class in which all boxes
-- keep them; the recovery sheet; the map of the coins; two secrets look the same. A module with a folder of its name says there in which order.
pub mod Demands
pub mod Terms
pub mod Histories
pub mod Own
pub mod MessageTo
pub mod Sharing
pub mod Lives
pub mod Stations
pub mod Completeness
pub mod Honest
pub mod SheetOpens
pub mod Matching
pub mod Hiding
