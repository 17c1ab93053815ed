mod Closers
mod Cut
mod Faults
mod Opened
mod Pointers
mod Said
mod Steps
mod Writing
