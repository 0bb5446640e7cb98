pub mod Zips
pub mod Passes
pub mod GoingOn
pub mod Standing
pub mod Counts
pub mod Waiting
pub mod Turning
pub mod Small
