-- Numbers
pub mod Congruence
pub mod Tests
pub mod Integers
pub mod Sizes
pub mod Linear
pub mod Polynomial
-- What the machine computes
pub mod SignedCode
pub mod UnsignedCode
pub mod ReadBack
-- Lists, rows and planes
pub mod Index
pub mod Runs
pub mod Lists
pub mod Parts
pub mod Rows
pub mod Paint
pub mod Cover
pub mod Tiles
pub mod Bounds
