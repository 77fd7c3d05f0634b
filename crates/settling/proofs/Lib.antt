pub mod Search
pub mod Totals
pub mod Fitness
pub mod Rows
pub mod Arrays
pub mod Energy
pub mod Histories
pub mod SheetRows
