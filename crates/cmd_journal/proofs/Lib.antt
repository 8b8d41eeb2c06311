mod BoxLines
mod Moved
mod Opened
mod Parts
mod Printed
mod Writing
