pub mod Opening
pub mod Repeats
pub mod DeskHistories
pub mod Noted
pub mod Past
pub mod Books
pub mod Offers
pub mod Opened
