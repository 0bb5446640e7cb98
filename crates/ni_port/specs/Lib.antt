pub mod SizedPort
pub mod Fields
