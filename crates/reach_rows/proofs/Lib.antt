mod Prelude
pub mod Spreading
pub mod Behind
pub mod Growing
pub mod Walking
pub mod Parting
pub mod Same
