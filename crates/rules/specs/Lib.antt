pub mod Signals
pub mod Rows
pub mod Games
pub mod Worked
pub mod Ruling
