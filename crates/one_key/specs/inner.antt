pub mod Shown
pub mod KeyLawful
pub mod Steps
