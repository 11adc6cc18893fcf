pub mod Digits
pub mod Search
pub mod Facts
pub mod Jobs
pub mod Members
pub mod Walk
pub mod Walked
