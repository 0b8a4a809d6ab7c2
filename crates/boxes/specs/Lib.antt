pub mod Reads
pub mod Scaled
pub mod Scales
pub mod Tables
pub mod BoxRows
