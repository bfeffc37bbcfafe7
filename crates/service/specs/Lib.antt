pub mod Owned
pub mod Making
pub mod Running
