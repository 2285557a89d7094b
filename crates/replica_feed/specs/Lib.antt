pub mod Frames
pub mod Words
pub mod Units
pub mod Runs
pub mod Applying
pub mod Reading
pub mod inner
