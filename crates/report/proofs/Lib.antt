mod GrowingLaws
mod AnswerLaws
pub mod LoadingLaws
mod PlanLaws
pub mod PageLaws
mod FilesLaws
mod OneText
mod OnePage
