pub mod Causes
pub mod Words
pub mod Drafts
pub mod inner
