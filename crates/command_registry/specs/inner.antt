-- What the invariant cites.
pub mod Sorted
