-- The laws that follow from the definitions, and that useless boxes are shut out.
pub mod Laws
pub mod UselessBoxes
