pub mod Ranges
pub mod Equals
pub mod Outcomes
pub mod Numbers
pub mod Told
pub mod Kept
