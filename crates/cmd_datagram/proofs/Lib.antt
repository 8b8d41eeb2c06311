mod Readings
mod Giving
mod Payloads
mod Writing
mod Listed
mod Worlds
