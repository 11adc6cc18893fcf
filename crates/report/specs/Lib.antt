pub mod Lines
pub mod Growing
pub mod Answers
pub mod Files
pub mod PageLines
pub mod Pages
pub mod Printed
