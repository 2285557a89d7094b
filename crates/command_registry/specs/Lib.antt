pub mod Registry
pub mod inner
