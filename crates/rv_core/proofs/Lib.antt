pub mod RoundTrip
pub mod StepLemmas
pub mod Shapes
pub mod Laws
