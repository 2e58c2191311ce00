pub mod SentLines
pub mod RowLines
