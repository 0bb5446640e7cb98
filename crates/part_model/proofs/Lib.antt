pub mod Stretches
pub mod Keeping
pub mod Ports
pub mod Shapes
pub mod Laws
