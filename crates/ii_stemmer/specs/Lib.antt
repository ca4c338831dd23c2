pub mod Letters
pub mod Porter
pub mod Rules
