-- A term after the borrow of its appended bytes has ended.
use Rattle.std.specs.Prelude.{◌≡◌, List, ℕ, ◌++◌, Result, OnErr, OnOk, ⊤}
use Rattle.std.specs.Borrow.{Bor, Fml, MutBor, follows_so}
use mathlib.Core.Option.{none}
use Rattle.ii_io.specs.declared.faults.Fault.{Fault}
use Rattle.ii_postings_writer.specs.contracts.indexing_term.IndexingTerm.{the_row}
use Rattle.ii_postings_writer.specs.IndexingTerm.{IndexingTermState}

-- The bytes were appended to the value; after an error the term is unchanged.
abbrev pub TermRestsWith : MutBor IndexingTermState → List ℕ → Result (Bor (List ℕ)) Fault → Fml
TermRestsWith s bytes r =
    follows_so the_row the_row s.ghost_name none (λ _ _. ⊤)
    (λ (n : IndexingTermState). OnOk r (n ≡ record s.now { value = s.now.value ++ bytes }) × OnErr r (n ≡ s.now))
