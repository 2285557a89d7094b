-- What the clauses of inner functions cite.
pub mod Packing
