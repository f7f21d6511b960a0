mod Formed
pub mod Answering
mod Clocks
mod Opened
mod Compared
mod Alone
