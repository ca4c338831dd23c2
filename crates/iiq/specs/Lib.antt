pub mod Words
pub mod Commands
pub mod Known
pub mod Output
pub mod Session
