pub mod Searching
pub mod Chains
pub mod Comparing
