pub mod Numbers
pub mod Entry
pub mod Ziplist
pub mod BadPlace
pub mod inner
