-- What the inner functions' clauses cite.
pub mod FirstQuote
pub mod Number
pub mod Line
pub mod Header
pub mod Word
pub mod Underway
pub mod Reading
