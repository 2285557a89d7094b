-- What the inner functions' clauses cite.
pub mod Earliest
pub mod Indexed
