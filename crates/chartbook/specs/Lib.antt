pub mod Answers
pub mod Reads
