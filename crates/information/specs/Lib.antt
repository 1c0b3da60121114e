pub mod Members
pub mod Report
pub mod Answer
pub mod Command
