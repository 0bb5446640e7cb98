pub mod Network
pub mod App
pub mod Slots
pub mod Credits
pub mod Trace
pub mod inner
