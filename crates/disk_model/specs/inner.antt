-- What the clauses of inner functions cite.
pub mod Recorded
pub mod Copied
pub mod Synced
pub mod RealFolder
pub mod RealLends
