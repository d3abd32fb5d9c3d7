mod Digits
mod Lengths
mod Obeying
mod Skipping
mod Standing
mod FirstLine
mod Filling
