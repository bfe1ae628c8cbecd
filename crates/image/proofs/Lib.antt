pub mod Sounding
pub mod Fields
