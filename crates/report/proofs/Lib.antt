pub mod Dated
pub mod Along
pub mod Short
pub mod Whole
