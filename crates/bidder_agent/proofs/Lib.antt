mod Replies
mod Conversing
mod Clocks
mod Visits
mod Turns
mod Wanted
