-- What was written to memory, as the bytes of an index.
use Rattle.std.proofs.Common.{◌≡◌, ◌∙◌, ℕ, List, [], Option, Some, None, ap, subst, sym}
use Rattle.std.specs.Io.KnownBytes.{Appends}
use Rattle.ii_base.specs.Schema.{SchemaEntry}
use Rattle.ii_definitions.specs.Fields.{option_of}
use Rattle.ii_definitions.specs.Files.{HoldTokens}
use Rattle.ii_definitions.specs.Norms.{HoldNorms}
use Rattle.ii_definitions.specs.Tokens.{IndexToken}
use Rattle.ii_indexing.specs.IndexFiles.{WroteIndex}
use Rattle.ii_indexing.specs.declared.index_writers.IndexWriters.{IndexWriters}
use Rattle.ii_indexing.specs.RamFiles.{empty_files}

-- what was appended to an empty file is all of it
appended : (bytes items : List ℕ) (old now : Option (List ℕ)) → old ≡ Some [] → Some items ≡ now → Appends old now bytes → bytes ≡ items
appended bytes items old None empty is h = absurd (cc)
appended bytes items old (Some xs) empty is h = inside (sym (whole xs (subst (λ (o : Option (List ℕ)). Appends o (Some xs) bytes) empty h)) ∙ sym is)
  where
    inside : Some bytes ≡ Some items → bytes ≡ items
    inside e = cc

    whole : (xs : List ℕ) → Appends (Some []) (Some xs) bytes → Some xs ≡ Some bytes
    whole xs h = ap (λ (xs : List ℕ). Some xs) h

module _ {W : Type 0} (entries : List SchemaEntry) (n : ℕ) (old new : IndexWriters W) (ts : List IndexToken) (w : WroteIndex entries n old new ts) (empty : old ≡ empty_files) where
  -- an index written to memory holds its tokens
  pub holds_written : (terms postings positions : List ℕ) → Some terms ≡ new.terms.contents → Some postings ≡ new.postings.contents → Some positions ≡ new.positions.contents → HoldTokens (option_of entries) terms postings positions ts
  holds_written terms postings positions in_terms in_postings in_positions =
      let a = appended w.terms.terms terms old.terms.contents new.terms.contents (ap (λ (f : IndexWriters W). f.terms.contents) empty) in_terms w.terms.wrote_terms.appends in
      let b = appended w.terms.postings postings old.postings.contents new.postings.contents (ap (λ (f : IndexWriters W). f.postings.contents) empty) in_postings w.terms.wrote_postings.appends in
      let c = appended w.terms.positions positions old.positions.contents new.positions.contents (ap (λ (f : IndexWriters W). f.positions.contents) empty) in_positions w.terms.wrote_positions.appends in
      subst (λ (x : List ℕ). HoldTokens (option_of entries) x postings positions ts) a
      (subst (λ (x : List ℕ). HoldTokens (option_of entries) w.terms.terms x positions ts) b
      (subst (λ (x : List ℕ). HoldTokens (option_of entries) w.terms.terms w.terms.postings x ts) c w.terms.hold))

  -- and their norms
  pub norms_written : (fieldnorms : List ℕ) → Some fieldnorms ≡ new.fieldnorms.contents → HoldNorms entries n fieldnorms ts
  norms_written fieldnorms in_norms =
      let d = appended w.norms.fieldnorms fieldnorms old.fieldnorms.contents new.fieldnorms.contents (ap (λ (f : IndexWriters W). f.fieldnorms.contents) empty) in_norms w.norms.wrote.appends in
      subst (λ (x : List ℕ). HoldNorms entries n x ts) d w.norms.hold
