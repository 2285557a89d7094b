-- What the inner functions' clauses cite.
pub mod Placing
pub mod Texts
