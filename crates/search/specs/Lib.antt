pub mod Systems
pub mod Rows
pub mod Walks
pub mod Places
pub mod Laws
