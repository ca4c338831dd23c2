-- The postings writer of any field.
use Rattle.ii_postings_writer.specs.PostingsWriter.{PostingsWriterState}
use Rattle.ii_postings_writer.specs.declared.postings_writer.PostingsWriterKind.{PostingsWriterKind}
use Rattle.ii_postings_writer.specs.declared.postings_writer.PostingsWriterKind.TheVariants.{Specialized, Json}

-- what a field's writer keeps, and its number of tokens
abbrev pub state_of_kind : PostingsWriterKind → PostingsWriterState
state_of_kind (Specialized writer) = writer
state_of_kind (Json writer) = writer
