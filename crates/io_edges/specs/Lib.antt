pub mod Told
pub mod Memory
pub mod Real
pub mod inner
