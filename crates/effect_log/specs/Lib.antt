pub mod Unit
pub mod Log
pub mod Reading
pub mod Written
pub mod Entry
pub mod Front
pub mod Refusal
pub mod Replay
