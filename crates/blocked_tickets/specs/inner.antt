-- What the inner functions' clauses cite.
pub mod Earliest
pub mod Entering
pub mod Indexed
pub mod Line
pub mod Rewriting
