pub mod Letter
pub mod Name
pub mod Id
