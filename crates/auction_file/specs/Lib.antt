pub mod Names
pub mod Tree
pub mod AuctionFile
pub mod Listing
pub mod Seen
