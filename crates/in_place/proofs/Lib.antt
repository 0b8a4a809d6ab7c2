pub mod Ranges
pub mod Stripe
pub mod Answers
pub mod Theorems
pub mod Damage
