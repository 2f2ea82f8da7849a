mod Levels
mod Clock
mod Events
mod Settled
mod Steps
mod Outside
