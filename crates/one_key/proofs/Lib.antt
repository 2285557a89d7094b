pub mod OwnWords
pub mod LentValues
pub mod Writes
pub mod Applying
