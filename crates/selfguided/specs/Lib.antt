pub mod Weighing
pub mod Mixes
pub mod Areas
pub mod Passes
pub mod Finals
pub mod Parameters
pub mod Windows
