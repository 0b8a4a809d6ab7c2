pub mod Conditions
pub mod Depths
pub mod Legal
pub mod Entries
pub mod Ranges
pub mod Search
pub mod Theorems
