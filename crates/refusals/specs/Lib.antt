pub mod Matters
