mod Wired
mod Changes
mod Sides
mod Grounds
mod Owners
mod Install
mod Rooms
mod Tabled
mod Looked
mod Placings
mod Begun
pub mod Laws
mod Pairs
