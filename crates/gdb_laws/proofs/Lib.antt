mod Backs
mod Cuts
mod Made
mod OnlyReading
mod Traces
mod Units
