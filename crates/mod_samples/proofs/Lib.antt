pub mod OwnWords
pub mod ReadingParts
pub mod Running
pub mod HelloRuns
pub mod CountTree
pub mod CountsRead
pub mod CountRuns
