mod Contents
mod Told
mod Whole
mod Walk
mod Delivers
