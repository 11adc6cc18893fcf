pub mod PairLaws
pub mod LayerLaws
pub mod PlansReach
pub mod Decisions
mod Counts
pub mod Settling
