pub mod Stands
pub mod Links
pub mod Core
pub mod Worlds
pub mod inner
