mod Calls
mod Writing
