mod Numbers
mod Keyed
mod Cuts
mod Through
mod Utf8
mod Writes
mod Reading
