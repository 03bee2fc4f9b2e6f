pub mod Filled
pub mod Bridge
pub mod Closed
pub mod Entered
pub mod Read
pub mod Charted
pub mod Places
pub mod Stepped
