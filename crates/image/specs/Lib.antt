pub mod Bytes
pub mod Format
pub mod Refusals
pub mod Judging
pub mod Opening
