pub mod NotBoth
pub mod SmallGames
pub mod Guarded
pub mod Same
