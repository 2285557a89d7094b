pub mod Holding
pub mod Kept
pub mod Taking
pub mod Crash
pub mod Host
pub mod Steps
pub mod Starts
pub mod inner
