pub mod Format
pub mod Image
pub mod Reading
pub mod Verdicts
