pub mod Counts
pub mod WorkedCases
pub mod Own
