pub mod Notes
pub mod Sending
pub mod Fitting
pub mod Held
pub mod Handling
