pub mod Turns
pub mod Glances
pub mod Seats
pub mod Opening
pub mod Houses
pub mod Closing
pub mod Rows
