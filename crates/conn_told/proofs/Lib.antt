mod Texts
mod Telling
mod Rounds
