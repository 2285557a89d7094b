pub mod KeyMeaning
pub mod OwnWords
pub mod MeaningOf
pub mod Lawful
pub mod Writing
pub mod inner
