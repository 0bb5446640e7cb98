pub mod Context
pub mod Kernel
pub mod Parts
pub mod Table
pub mod Switching
pub mod Turn
pub mod Places
pub mod Lending
