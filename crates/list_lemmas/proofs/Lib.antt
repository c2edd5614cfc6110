pub mod Bools
pub mod Comparisons
pub mod Options
pub mod Lists
pub mod Elements
pub mod Each
