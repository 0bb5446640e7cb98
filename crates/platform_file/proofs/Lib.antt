pub mod Raw
pub mod Exclusive
pub mod Laws
