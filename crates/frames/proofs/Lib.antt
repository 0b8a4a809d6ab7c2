pub mod Conditions
pub mod Legal
