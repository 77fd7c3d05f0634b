mod Numbering
mod YearForm
mod Padded
mod Promises
mod Reading
mod Figures
