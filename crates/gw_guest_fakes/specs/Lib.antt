pub mod Guests
