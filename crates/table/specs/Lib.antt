pub mod Tables
pub mod Worked
pub mod Tabling
