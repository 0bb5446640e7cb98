mod Opens
mod Drawing
mod Taking
mod Leaving
mod Sharing
mod Closing
mod Comparing
