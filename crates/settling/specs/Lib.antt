pub mod Placed
pub mod History
pub mod Evidence
pub mod Outcomes
pub mod Sheets
