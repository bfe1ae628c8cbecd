pub mod Masking
pub mod Inputs
pub mod Example
