pub mod Linear
pub mod MemberLaws
pub mod Orders
pub mod PartLaws
mod RoundLaws
mod SetLaws
