pub mod Making
pub mod Values
pub mod Words
