pub mod Telling
mod Fronts
mod Reading
mod Writing
mod Sending
mod Rows
mod Renewed
mod Counting
pub mod Moments
pub mod Shown
pub mod Overlays
mod Replays
mod Images
mod Shelving
