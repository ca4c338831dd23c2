-- The writers of fields after the borrow of a writer has ended.
use Rattle.std.specs.Prelude.{ℕ, List, slice_set}
use Rattle.std.specs.Borrow.{Fml, Lends, MutBor}
use Rattle.ii_postings_writer.specs.PostingsWriter.{PostingsWriterState}
use Rattle.ii_postings_writer.specs.PostingsWriterKind.{state_of_kind}
use Rattle.ii_postings_writer.specs.declared.postings_writer.PostingsWriterKind.{PostingsWriterKind}
use Rattle.ii_postings_writer.specs.contracts.per_field_postings_writer.PerFieldPostingsWriter.{the_row as writers_row}
use Rattle.ii_postings_writer.specs.contracts.postings_writer.PostingsWriterKind.{the_row as writer_row}

-- The writer of a field is replaced by the final state of the borrowed writer.
abbrev pub LendsWriter : MutBor (List PostingsWriterState) → ℕ → MutBor PostingsWriterKind → Fml
LendsWriter s field r = Lends writers_row writer_row s r (λ writer. slice_set s.now field (state_of_kind writer))
