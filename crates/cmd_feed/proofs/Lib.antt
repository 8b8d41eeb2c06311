mod Statuses
mod Seating
mod Lived
mod Messages
mod OutOn
mod Over
mod Ended
