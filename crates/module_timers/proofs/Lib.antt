pub mod Listed
pub mod DueSet
pub mod Entries
pub mod Earliest
pub mod Found
pub mod Agree
