pub mod Equal
pub mod Ranges
pub mod Same
