mod Prelude
pub mod Cuts
pub mod Items
pub mod Numerals
pub mod ReadBack
pub mod Sendings
pub mod Takings
pub mod Texts
