pub mod Documents
pub mod Passed
pub mod Trees
pub mod Turns
