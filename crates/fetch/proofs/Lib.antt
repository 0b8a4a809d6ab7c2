pub mod Laws
pub mod Sources
