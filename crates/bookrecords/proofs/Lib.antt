pub mod Exits
pub mod HeaderTests
pub mod Intervals
pub mod Listing
pub mod Parts
