-- Computed: values, recorded answers, case B as calls
pub mod Opened
pub mod Values
pub mod Recorded
pub mod Witness
pub mod Conditions
pub mod Cases
-- Sums, and the arms of definitions by cases
pub mod Sums
pub mod Arms
-- One sample: what it depends on, its range
pub mod Locality
pub mod Parity
pub mod Range
-- Stripes, rectangles, the specification's own order by blocks
pub mod Stripes
pub mod Rectangles
pub mod Blocks
-- Superres
pub mod Upscaler
-- Numbers and answers
pub mod Refusals
pub mod Answers
pub mod Frames
-- Stripes in place
pub mod Edges
pub mod Demand3
-- Jobs
pub mod Job
