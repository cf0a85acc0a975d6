pub mod Start
pub mod Rounds
