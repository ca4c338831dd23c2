pub mod Addresses
pub mod KeyTexts
pub mod PathTexts
