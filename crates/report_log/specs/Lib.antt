pub mod Entries
pub mod Logs
pub mod Pieces
pub mod Reading
