-- What the clauses of inner functions cite.
pub mod Removals
