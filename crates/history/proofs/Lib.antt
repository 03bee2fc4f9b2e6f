pub mod Seen
pub mod Standing
pub mod Showing
pub mod Lawful
pub mod Only
