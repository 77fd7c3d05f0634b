pub mod Gregorian
pub mod Weekdays
pub mod DateText
pub mod Laws
