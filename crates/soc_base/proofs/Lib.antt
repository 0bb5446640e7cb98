pub mod StepLemmas
pub mod Digits
pub mod Slots
pub mod Laws
