pub mod Rows
pub mod Spots
pub mod Routing
pub mod Fields
