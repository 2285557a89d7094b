pub mod Effects
pub mod Units
pub mod OneOpening
pub mod SameDisk
pub mod Crash
pub mod KeptLogs
pub mod OpenLogs
pub mod Calls
