pub mod Reduced
pub mod Proper
