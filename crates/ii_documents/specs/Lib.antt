pub mod Floats
pub mod JsonLines
pub mod JsonValues
pub mod LineFields
pub mod LinePlaces
pub mod Records
pub mod Steps
