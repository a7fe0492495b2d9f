mod Words
mod Placed
mod Tables
