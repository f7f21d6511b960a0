pub mod Exchange
pub mod Explained
pub mod Listed
pub mod Scanned
pub mod Shortfall
