mod Prelude
pub mod Places
pub mod Grown
pub mod Boughs
pub mod Seated
pub mod Cubed
pub mod Planted
pub mod Ends
pub mod Retraced
pub mod Asked
