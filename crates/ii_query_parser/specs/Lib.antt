pub mod Bounded
pub mod ParserErrors
pub mod Queries
pub mod QuerySteps
pub mod QueryTexts
pub mod Ranges
pub mod StarredTexts
