pub mod HalfTypes
pub mod OneSet
pub mod TwoSets
