pub mod Spooling
