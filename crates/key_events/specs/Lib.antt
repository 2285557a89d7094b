pub mod Patterns
pub mod Rolls
pub mod Subscribers
pub mod Outcomes
pub mod Messages
pub mod inner
