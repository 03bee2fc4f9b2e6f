pub mod Risen
pub mod Charted
pub mod Linked
pub mod Swept
pub mod Flat
