mod Giving
mod Reading
