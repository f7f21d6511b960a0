pub mod Excesses
pub mod Bidders
pub mod Paths
