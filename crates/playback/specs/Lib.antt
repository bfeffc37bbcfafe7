pub mod Names
pub mod Rows
pub mod Transcript
pub mod Playing
pub mod Laws
