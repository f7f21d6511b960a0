pub mod Fronts
pub mod Collecting
