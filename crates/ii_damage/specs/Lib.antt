pub mod Bodies
pub mod Damages
pub mod Fits
pub mod Opened
pub mod Totals
pub mod Walked
