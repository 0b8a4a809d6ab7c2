pub mod Source
pub mod Runs
