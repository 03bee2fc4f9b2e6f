pub mod Blank
pub mod Ranges
pub mod Equality
