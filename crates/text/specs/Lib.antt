pub mod Faults
pub mod Fields
pub mod Words
pub mod Parsing
pub mod Printing
pub mod Laws
