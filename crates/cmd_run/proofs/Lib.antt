mod Completing
mod Formatting
mod Forms
mod Journals
mod Moving
