pub mod Codes
pub mod Lending
pub mod Listing
pub mod NextDue
pub mod inner
