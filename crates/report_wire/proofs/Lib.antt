pub mod Streams
pub mod Needs
mod Fronts
pub mod Spelling
mod Pairs
