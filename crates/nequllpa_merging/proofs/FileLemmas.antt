-- New files that were written, as those of a segment.
use Rattle.std.proofs.Common.{◌≡◌, ℕ, List, [], length, Option, Some, None, ap, arith, refl, subst, sym}
use Rattle.std.specs.Io.KnownBytes.{Appends}
use Rattle.ii_io.specs.CountingWriter.{CountingWriterState, Wrote}
use Rattle.ii_base.specs.Schema.{SchemaEntry}
use Rattle.ii_definitions.specs.Fields.{option_of}
use Rattle.ii_definitions.specs.Files.{HoldTokens}
use Rattle.ii_definitions.specs.Norms.{HoldNorms}
use Rattle.ii_definitions.specs.Tokens.{IndexToken}
use Rattle.ii_indexing.specs.IndexFiles.{WroteIndex}
use Rattle.ii_indexing.specs.declared.index_writers.IndexWriters.{IndexWriters}
use Rattle.ii_indexing.specs.RamFiles.{empty_file, empty_files}
use Rattle.ii_block_file.specs.ListedFile.{bytes_or_none}
use Rattle.ii_segment_store.specs.NewSegments.{IsCounted, new_file}

-- what was appended to an empty file is all of it, which is known
appended_is : (bytes : List ℕ) (now : Option (List ℕ)) → Appends (Some []) now bytes → bytes ≡ bytes_or_none now
appended_is bytes None h = absurd h
appended_is bytes (Some xs) h = sym h

appended_known : (bytes : List ℕ) (now : Option (List ℕ)) → Appends (Some []) now bytes → now ≡ Some (bytes_or_none now)
appended_known bytes None h = absurd h
appended_known bytes (Some xs) h = refl

-- the bytes of a file that was written are all of it, and were counted

module _ (new : CountingWriterState) (bytes : List ℕ) (w : Wrote empty_file new bytes) where
  pub file_is : bytes ≡ new_file new
  file_is = appended_is bytes new.contents w.appends

  pub is_counted : IsCounted new
  is_counted = record {
    known = appended_known bytes new.contents w.appends;
    counted = let same : length bytes ≡ length (new_file new) = ap length file_is in omega (arith, w.written_bytes, same);
  }

module _ {W : Type 0} (entries : List SchemaEntry) (n : ℕ) (new : IndexWriters W) (ts : List IndexToken) (w : WroteIndex entries n empty_files new ts) where
  pub lists_hold : HoldTokens (option_of entries) (new_file new.terms) (new_file new.postings) (new_file new.positions) ts
  lists_hold =
      subst (λ (x : List ℕ). HoldTokens (option_of entries) x (new_file new.postings) (new_file new.positions) ts) (file_is new.terms w.terms.terms w.terms.wrote_terms)
      (subst (λ (x : List ℕ). HoldTokens (option_of entries) w.terms.terms x (new_file new.positions) ts) (file_is new.postings w.terms.postings w.terms.wrote_postings)
      (subst (λ (x : List ℕ). HoldTokens (option_of entries) w.terms.terms w.terms.postings x ts) (file_is new.positions w.terms.positions w.terms.wrote_positions) w.terms.hold))

  pub norms_hold : HoldNorms entries n (new_file new.fieldnorms) ts
  norms_hold = subst (λ (x : List ℕ). HoldNorms entries n x ts) (file_is new.fieldnorms w.norms.fieldnorms w.norms.wrote) w.norms.hold
