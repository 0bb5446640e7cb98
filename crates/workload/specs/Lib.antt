pub mod Draws
pub mod Documents
pub mod Texts
pub mod inner
