pub mod Raising
pub mod Demands
pub mod Positions
