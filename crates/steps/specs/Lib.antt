pub mod Tables
pub mod Fillings
pub mod Parts
pub mod Readings
pub mod Answers
