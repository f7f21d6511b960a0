pub mod Remaining
pub mod Assembled
pub mod Units
