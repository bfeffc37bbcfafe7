mod Looking
mod Picking
mod Trimming
mod Truncating
pub mod BackingUp
pub mod Due
pub mod Freeing
pub mod Handles
pub mod Installing
pub mod Locking
pub mod Newest
pub mod Finding
pub mod Peeks
pub mod Regions
pub mod Sent
