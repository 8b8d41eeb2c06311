mod Going
mod Seeing
mod Times
