pub mod Words
pub mod Exclusive
pub mod Laws
