pub mod Format
pub mod Padding
pub mod Puts
pub mod Journals
pub mod Scans
pub mod Kinds
pub mod Fronts
pub mod Calls
