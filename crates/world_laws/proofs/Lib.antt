mod Unseen
mod Written
mod Reached
