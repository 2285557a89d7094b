pub mod Queue
pub mod Client
pub mod Register
pub mod Pending
pub mod inner
