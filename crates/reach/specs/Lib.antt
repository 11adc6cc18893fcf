pub mod Tables
pub mod PairSets
pub mod Makings
