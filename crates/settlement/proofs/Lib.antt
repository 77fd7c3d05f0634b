pub mod Standing
pub mod Held
pub mod Walks
pub mod Settlings
pub mod Steps
pub mod Turns
