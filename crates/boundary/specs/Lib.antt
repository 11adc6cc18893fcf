pub mod Texts
pub mod Piles
pub mod Growths
pub mod Tables
