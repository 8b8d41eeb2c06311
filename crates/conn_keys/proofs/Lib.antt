mod Bytes
mod Classes
mod Standing
mod Turning
