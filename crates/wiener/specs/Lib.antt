-- What a pass does to a sum, and the two passes over rows
pub mod Mild
pub mod Passes
