pub mod Coding
pub mod Cutting
pub mod Encoded
pub mod Homes
pub mod Numbers
pub mod Plans
pub mod Rereading
pub mod Unrolling
