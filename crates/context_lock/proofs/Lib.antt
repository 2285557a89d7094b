pub mod Sums
pub mod Numbers
pub mod Going
pub mod Rules
