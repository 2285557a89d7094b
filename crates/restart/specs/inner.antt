-- What the parts of opening a log say of themselves.
pub mod Replaying
pub mod Progress
pub mod Finding
pub mod Keeping
