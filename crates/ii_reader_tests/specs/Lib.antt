pub mod RecordedTerm
