pub mod Taken
pub mod Readings
