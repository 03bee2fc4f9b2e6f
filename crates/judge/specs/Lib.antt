pub mod Judging
pub mod Walking
