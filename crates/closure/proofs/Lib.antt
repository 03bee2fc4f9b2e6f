pub mod Places
pub mod Rounds
pub mod Entries
pub mod Searches
pub mod Steps
pub mod Closures
