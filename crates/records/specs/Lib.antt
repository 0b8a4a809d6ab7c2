pub mod Entries
pub mod Left
pub mod Skipped
