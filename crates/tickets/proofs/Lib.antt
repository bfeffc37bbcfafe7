pub mod Moved
pub mod Stepping
pub mod Keeping
