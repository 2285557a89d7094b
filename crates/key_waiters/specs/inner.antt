-- What the inner functions' clauses cite.
pub mod Places
pub mod Lines
