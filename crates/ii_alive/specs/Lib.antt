pub mod Alive
pub mod AliveBits
pub mod AliveBytes
