pub mod Counts
pub mod Graph
pub mod Lower
pub mod Objects
pub mod Orders
pub mod Report
pub mod Words
