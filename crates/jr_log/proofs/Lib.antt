mod Fronts
mod Scans
mod Cleared
mod Written
