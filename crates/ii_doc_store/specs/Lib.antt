pub mod RoundTrip
pub mod StoreFile
pub mod StoreFormat
pub mod StoreReader
pub mod StoreWriter
