pub mod Pairs
pub mod Histories
pub mod Passes
pub mod Locks
pub mod inner
