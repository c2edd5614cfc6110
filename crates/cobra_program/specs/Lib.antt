pub mod Left
pub mod Stages
pub mod Texts
pub mod Audits
pub mod Program
