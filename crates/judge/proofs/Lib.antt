pub mod Faults
pub mod Positions
