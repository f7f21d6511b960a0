pub mod Awards
pub mod Bridge
pub mod Most
pub mod Moves
pub mod One
pub mod Truth
