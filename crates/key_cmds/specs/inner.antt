-- What the inner functions' clauses cite.
pub mod Plain
pub mod Setting
pub mod Several
pub mod Settling
