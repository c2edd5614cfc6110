pub mod Unknown
pub mod WellFormed
pub mod Serial
pub mod Numbers
