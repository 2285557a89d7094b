-- What the clauses of inner functions cite.
pub mod Calls
pub mod Answers
