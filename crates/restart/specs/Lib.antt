pub mod Restart
pub mod OpenLog
pub mod Calls
pub mod inner
