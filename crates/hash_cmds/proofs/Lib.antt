pub mod Lengths
pub mod Outcomes
pub mod Leaving
pub mod Absent
pub mod Told
pub mod Kept
