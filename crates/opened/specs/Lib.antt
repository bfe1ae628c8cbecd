pub mod Opened
pub mod Lawful
