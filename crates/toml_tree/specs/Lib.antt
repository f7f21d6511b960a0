pub mod Steps
pub mod Seen
pub mod Tree
pub mod Readers
