pub mod Holding
pub mod Answers
pub mod Standing
pub mod Promises
