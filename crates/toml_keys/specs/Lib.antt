pub mod Keys
pub mod Values
pub mod Document
pub mod Judged
pub mod Level
