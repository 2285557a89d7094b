pub mod Length
pub mod Text
pub mod Places
pub mod Faults
pub mod Reading
pub mod Checksum
pub mod inner
