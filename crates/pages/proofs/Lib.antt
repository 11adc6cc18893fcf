mod LineLaws
pub mod PageLaws
