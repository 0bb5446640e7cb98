pub mod Engine
pub mod Wires
pub mod Turn
pub mod Sample
