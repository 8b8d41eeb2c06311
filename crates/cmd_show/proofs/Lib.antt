mod Following
mod Going
mod Judging
mod Showing
