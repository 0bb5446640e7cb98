pub mod Limits
pub mod Links
pub mod Rules
pub mod Words
pub mod Platform
pub mod Plain
