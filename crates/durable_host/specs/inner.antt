-- What the clauses of inner functions and the host's invariant cite.
pub mod Running
pub mod Faults
pub mod Making
