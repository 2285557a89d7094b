pub mod KeyCounter
pub mod KeyCounterLaws
