mod Dumped
mod Ends
mod Missing
mod Sent
mod SessionEnds
mod Texts
mod Waiting
