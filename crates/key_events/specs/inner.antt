-- What the inner functions' clauses cite.
pub mod Walks
pub mod Lines
pub mod Tables
pub mod Listing
pub mod Bounds
