pub mod Game
pub mod Play
pub mod Winner
pub mod Examples
