pub mod AddressBytes
pub mod AddressLemmas
pub mod AddressTexts
pub mod CharTexts
pub mod CutLemmas
pub mod KeyLaws
pub mod KeyLemmas
pub mod PathLaws
mod WorkedRows
