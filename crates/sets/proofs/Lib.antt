pub mod DigitLaws
pub mod FactLaws
pub mod JobLaws
pub mod MemberSearch
pub mod SearchLaws
pub mod SizeLaws
pub mod WalkLaws
pub mod Walked
