pub mod EntryLaws
pub mod GoalLaws
pub mod OpenLaws
pub mod PairSetLaws
pub mod WriteLaws
pub mod MakingLaws
pub mod MadeLaws
pub mod GrowLaws
