pub mod Digits
pub mod Counted
pub mod Summed
pub mod Monthed
pub mod Modest
