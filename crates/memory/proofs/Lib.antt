pub mod Changes
pub mod Joining
pub mod Laws
pub mod Packing
pub mod Requests
