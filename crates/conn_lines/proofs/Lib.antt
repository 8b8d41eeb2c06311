mod Hexadecimal
mod Parts
