-- What each kind of group owes to the theorems: proofs, which no reader of the contracts needs.
pub mod First
pub mod Steps
pub mod Units
pub mod Keys
pub mod Members
pub mod Reports
pub mod Grants
pub mod Orders
pub mod Undo
pub mod Parts
pub mod UnitsAgain
pub mod MembersAgain
pub mod ReportsAgain
pub mod GrantsAgain
pub mod OrdersAgain
pub mod Shorts
