pub mod Sizes
pub mod Units
pub mod Whole
pub mod Answers
pub mod Theorems
