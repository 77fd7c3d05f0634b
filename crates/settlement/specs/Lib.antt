pub mod Tables
pub mod Meant
pub mod Living
