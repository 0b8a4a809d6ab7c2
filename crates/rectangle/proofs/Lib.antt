pub mod BlockLaws
pub mod SharpLaws
pub mod PlainLaws
pub mod SoftLaws
