mod CutLaws
mod DamageLaws
mod IndexLaws
mod RecordLaws
mod RoundTripLaws
mod StoredLaws
mod WorkedRows
