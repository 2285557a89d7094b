pub mod Rounds
pub mod FieldLemmas
pub mod KeyLemmas
pub mod Removals
pub mod NameSets
