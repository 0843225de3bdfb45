pub mod Names
pub mod Same
pub mod Misfits
pub mod Counterparts
pub mod Renamed
pub mod Carried
pub mod Moves
