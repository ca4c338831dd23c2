mod LetterLemmas
mod StemLemmas
mod SuffixLemmas
mod WorkedRows
