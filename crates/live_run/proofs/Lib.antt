mod Coming
mod Ending
mod Hands
mod Linking
mod Small
mod UsedUp
