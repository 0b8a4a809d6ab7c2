pub mod Scaled
pub mod Sides
