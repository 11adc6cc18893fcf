pub mod Records
pub mod Sets
pub mod TaskFiles
pub mod TaskFaults
pub mod Reading
pub mod Loading
pub mod SheetFiles
