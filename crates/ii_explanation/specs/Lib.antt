pub mod Explanations
pub mod PartTexts
pub mod ScoreTexts
