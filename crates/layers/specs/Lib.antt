pub mod Pairs
pub mod Layers
pub mod Bounds
