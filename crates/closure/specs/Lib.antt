pub mod Kinds
pub mod Walks
pub mod Befores
pub mod Tickings
pub mod Closings
pub mod Rounds
pub mod TicksLaws
