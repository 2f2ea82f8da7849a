mod Firsts
mod Naming
mod Numbers
mod Refusing
mod SecondRam
mod Devices
mod Documents
