pub mod Groups
pub mod Messages
pub mod Wrote
pub mod GroupsAgain
pub mod MessagesAgain
