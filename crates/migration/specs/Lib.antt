pub mod Moving
pub mod Moves
pub mod Targets
