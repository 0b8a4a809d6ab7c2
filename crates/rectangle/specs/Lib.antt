pub mod View
pub mod Seen
