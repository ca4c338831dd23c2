-- The documents of a term or of a phrase.
use Rattle.std.specs.Prelude.{ℕ, List}
use Rattle.std.specs.List.{AllZip}
use Rattle.ii_base.specs.Entries.{Entry}
use Rattle.ii_query.specs.Phrase.{ReadsOnce, Spent}
use Rattle.ii_query.specs.SloppyPhrase.{sloppy_docs}
use Rattle.ii_query.specs.declared.term_or_phrase.TermOrPhrase.{TermOrPhrase}
use Rattle.ii_query.specs.declared.term_or_phrase.TermOrPhrase.TheVariants.{Term, Phrase}

-- the remaining documents, given those of a term's cursor
abbrev pub rest_of : {P : Type 0} → (P → List Entry) → TermOrPhrase P → List Entry
rest_of rest (Term cursor) = rest cursor
rest_of rest (Phrase cursor) = sloppy_docs cursor.slop cursor.phrase.first cursor.phrase.others

-- what a move may do to the cursor of a term, or to each cursor of a phrase, which also reads positions, each one at most once
abbrev pub WentOn : {P : Type 0} → (P → P → Type 0) → (ℕ → ℕ → P → P → Type 0) → TermOrPhrase P → TermOrPhrase P → Type 0
WentOn went spent (Term old) (Term new) = went old new
WentOn went spent (Phrase old) (Phrase new) = AllZip (Spent spent) old.phrase.cursors new.phrase.cursors × AllZip (ReadsOnce spent) old.phrase.terms new.phrase.terms
WentOn went spent (Term old) (Phrase new) = ⊥
WentOn went spent (Phrase old) (Term new) = ⊥
