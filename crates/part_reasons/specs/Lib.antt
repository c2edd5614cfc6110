pub mod Apart
pub mod Drawn
pub mod Why
pub mod Points
pub mod Said
pub mod Shown
pub mod Timed
pub mod Weaker
