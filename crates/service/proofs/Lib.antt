mod Fitting
mod Lending
mod Resting
mod Running
