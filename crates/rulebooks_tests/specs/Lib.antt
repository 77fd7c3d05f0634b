pub mod Fixed
pub mod Excess
