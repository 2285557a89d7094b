pub mod Changing
pub mod Keys
pub mod Listing
pub mod Marking
pub mod Fitting
