pub mod Capping
pub mod Carried
pub mod Descending
pub mod Forms
pub mod Seen
pub mod Tree
pub mod Values
pub mod ValuesFile
