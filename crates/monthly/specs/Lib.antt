pub mod Days
pub mod Monthly
pub mod Cells
