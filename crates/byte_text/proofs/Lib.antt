pub mod WritingDigits
pub mod Decimals
pub mod ReadingDigits
pub mod ReadNumbers
pub mod Names
