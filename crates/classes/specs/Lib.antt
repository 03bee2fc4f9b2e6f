pub mod Classes
pub mod Ranged
