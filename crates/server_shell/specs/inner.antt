-- What the clauses of inner functions cite.
pub mod Handing
pub mod Flushing
pub mod Taking
pub mod Stopping
