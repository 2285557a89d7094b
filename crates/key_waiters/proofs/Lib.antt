pub mod Entries
pub mod Trees
pub mod Listed
pub mod LineSet
pub mod Places
pub mod First
pub mod Changed
