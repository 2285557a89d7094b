pub mod Due
pub mod TimerTable
pub mod Outcomes
pub mod Laws
pub mod inner
