pub mod Deleting
pub mod Explained
pub mod Finding
pub mod OpenedNumbers
pub mod Positions
pub mod ShareTexts
