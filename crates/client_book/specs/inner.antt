pub mod Outbox
pub mod Entry
pub mod Watching
