pub mod Accounts
pub mod Meaning
pub mod Places
