pub mod Number
pub mod Name
