-- What the clauses of slots name beside the definitions of `rules`.
pub mod Clauses
