-- What the statements of `Demands` name, beside `rules`. Definitions, and nothing is proved here.
-- In order: calls, lives and histories; an honest deal; the life of a box; a box of any make; a class in which all boxes keep the rules; the recovery sheet; two secrets.
pub mod Histories
pub mod Dealing
pub mod Lives
pub mod Stations
pub mod Honest
pub mod Sheet
pub mod Secrets
