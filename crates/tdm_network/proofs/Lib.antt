pub mod RowNumbers
pub mod Written
pub mod SpotLemmas
pub mod RoutingLemmas
pub mod Laws
