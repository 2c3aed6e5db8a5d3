pub mod Laying
pub mod Storing
