mod Memory
mod Numbers
mod Times
