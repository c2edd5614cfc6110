pub mod Answers
pub mod Growing
pub mod Requests
pub mod Views
