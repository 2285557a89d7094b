pub mod HalfViews
pub mod Counting
pub mod SetReplay
