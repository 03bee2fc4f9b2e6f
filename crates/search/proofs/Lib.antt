pub mod Trails
pub mod Pairs
pub mod Unique
pub mod Breadth
pub mod Stepping
pub mod Walking
pub mod Told
pub mod Progress
