-- What the inner functions' clauses cite.
pub mod Ahead
pub mod Halves
pub mod Held
pub mod Index
pub mod Lending
pub mod LendingValue
pub mod LendsLong
pub mod LendsShort
pub mod Names
pub mod Short
pub mod Starts
