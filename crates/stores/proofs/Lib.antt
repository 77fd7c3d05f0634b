pub mod Pinning
pub mod OneLayout
mod Ringed
pub mod Writing
pub mod Filled
mod Counting
mod Ends
mod Alone
