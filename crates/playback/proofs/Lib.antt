mod Setting
mod Playing
mod Opening
mod Sizes
mod Fronts
mod Lines
mod Counting
