pub mod Held
pub mod Packed
pub mod Places
pub mod Reading
pub mod Same
pub mod Slopes
pub mod Sums
