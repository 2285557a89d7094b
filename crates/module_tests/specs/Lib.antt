pub mod Least
pub mod Shelf
pub mod Texts
pub mod Wrong
