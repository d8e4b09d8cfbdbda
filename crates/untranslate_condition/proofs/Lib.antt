pub mod Places
pub mod Leads
pub mod Members
pub mod Conditions
