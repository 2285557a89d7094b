pub mod Due
pub mod Ticket
pub mod TicketTable
pub mod Outcomes
pub mod Kept
pub mod Laws
pub mod inner
