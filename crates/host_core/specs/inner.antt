-- What the inner functions' clauses cite.
pub mod Names
pub mod Giving
pub mod Saving
