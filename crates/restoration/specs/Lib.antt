pub mod Asked
pub mod Seen
