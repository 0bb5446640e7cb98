pub mod Names
pub mod Words
pub mod Reading
pub mod Numbers
pub mod Stated
