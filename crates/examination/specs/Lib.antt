pub mod Views
pub mod Chains
pub mod Routes
pub mod Conduct
