pub mod Seeking
pub mod Leading
pub mod Entering
pub mod Onward
