-- What the steps do that write a term of a field.
use Rattle.std.specs.Prelude.{◌≡◌, ℕ, List, [], ◌∷◌, true, Ok, Option}
use Rattle.ii_fieldnorm.specs.Readers.{Norms}
use Rattle.ii_recorder.specs.IndexBodies.{IndexBodiesState}
use Rattle.ii_recorder.specs.IndexSerializer.{EndsInMemory, IndexSerializerState, IsWriting}
use Rattle.ii_recorder.specs.Terms.{WrittenTerm}
use Rattle.ii_postings_writer.specs.SortedTerms.{SortedTerm, term_option}

-- A term was started under its key, with the option that its recorder allows, and nothing was written.
pub record IsBegunTerm (old new : IndexSerializerState) (t : SortedTerm) : Type 0 where
  pub writing : (initial : IndexBodiesState) (field tokens : ℕ) (norms : Option Norms) (ts : List WrittenTerm) → IsWriting initial old field tokens norms ts [] → IsWriting initial new field tokens norms ts (t.key ∷ [])
  pub term : new.field.term ≡ record old.field.term { skip_info = term_option old.field.term.mode t; docs = []; freqs = []; deltas = [] }
  pub inside : new.field.term_open ≡ true
  pub ends : EndsInMemory {A = Unit {0}} old new (Ok tt)
