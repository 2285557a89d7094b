pub mod Letters
pub mod Ids
pub mod Names
