mod Ranges
mod Sound
