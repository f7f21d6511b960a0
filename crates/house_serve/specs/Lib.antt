pub mod Ends
pub mod Pieces
pub mod Serving
pub mod Doors
pub mod Houses
pub mod Booths
