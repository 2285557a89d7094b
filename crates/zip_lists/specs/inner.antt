-- What the inner functions' clauses cite.
pub mod Fronts
pub mod Walking
