pub mod Commands
pub mod Words
pub mod Reading
pub mod Setting
pub mod Removing
pub mod Counting
pub mod Rows
pub mod Laws
