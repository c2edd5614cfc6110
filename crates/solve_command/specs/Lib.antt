pub mod Solved
