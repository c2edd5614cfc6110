pub mod Usage
pub mod Updates
