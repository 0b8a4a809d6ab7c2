-- One sample
pub mod Arithmetic
pub mod Depths
pub mod Wiener
pub mod SelfGuided
-- The plane
pub mod Stripes
pub mod Fetch
pub mod Planes
-- Superres
pub mod UpscaleFilter
pub mod Superres
-- The calls: frame numbers, unit entries, refusals, answers
pub mod Units
pub mod Refusals
pub mod Answers
pub mod Calls
-- The job program
pub mod Job
