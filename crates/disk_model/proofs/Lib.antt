mod Sound
mod NameLaws
mod DiskLaws
pub mod Past
pub mod Images
mod Copies
pub mod Failures
mod Telling
mod Settled
pub mod Safe
pub mod Added
mod Temporary
pub mod Moments
pub mod Stays
