pub mod Making
pub mod Meaning
