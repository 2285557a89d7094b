pub mod Commands
pub mod Words
pub mod Reading
pub mod Adding
pub mod Taking
pub mod Rows
pub mod Laws
