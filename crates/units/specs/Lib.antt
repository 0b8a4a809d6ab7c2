pub mod Legal
pub mod First
pub mod Entry
