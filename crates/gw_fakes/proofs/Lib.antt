mod Pending
mod Settling
mod Sound
mod Tearing
