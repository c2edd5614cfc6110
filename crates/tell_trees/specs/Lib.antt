pub mod Orders
pub mod Trees
pub mod Visits
