mod WarmingLemmas
mod WorkedRows
