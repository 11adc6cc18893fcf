mod GrowthLaws
mod TableLaws
