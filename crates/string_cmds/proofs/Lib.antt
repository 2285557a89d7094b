pub mod Laying
pub mod Outcomes
pub mod Told
pub mod Kept
