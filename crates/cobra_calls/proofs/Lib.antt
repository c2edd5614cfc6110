mod Prelude
pub mod Left
pub mod Taken
pub mod Handing
pub mod Saying
pub mod Failures
pub mod Cuts
pub mod Apart
pub mod Usage
