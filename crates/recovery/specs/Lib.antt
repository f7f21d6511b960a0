pub mod Entries
pub mod Journaled
pub mod Causes
pub mod Streams
