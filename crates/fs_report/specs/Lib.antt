pub mod FileList
pub mod ReportView
