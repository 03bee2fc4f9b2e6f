pub mod States
pub mod Views
pub mod Meanings
pub mod Histories
pub mod Laws
