-- What the code's sums, roundings and areas are
pub mod TapLaws
pub mod SumLaws
pub mod PassLaws
pub mod WindowLaws
