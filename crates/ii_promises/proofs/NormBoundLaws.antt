-- The bounds of an index's blocks, by its norms.
use Rattle.std.proofs.Common.{◌≡◌, ◌∙◌, ◌*◌, ◌+◌, ◌/◌, ◌%◌, ◌<◌, ◌≤◌, ◌&&◌, if◌then◌else◌, ◌∷◌, ℕ, zero, suc, Bool, true, false, List, [], Option, None, Some, Ok, length, map, refl, sym, ap, subst, arith}
use Rattle.std.specs.Prelude.{IfNone, IfOk, IfSome, IsSomeAnd, MatchOption, Result, ok_or, slice_get, slice_index}
use Rattle.std.specs.Option.{option_map}
use Rattle.ii_io.specs.declared.faults.Fault.{Fault}
use Rattle.ii_io.specs.declared.faults.Part.{Part}
use Rattle.ii_io.specs.declared.faults.Part.TheVariants.{Documents, Frequencies, Skip}
use Rattle.ii_io.specs.Parts.{◌>>=◌}
use Rattle.ii_io.specs.StepLemmas.{some-same}
use Rattle.ii_io.specs.Composite.{body_of}
use Rattle.ii_base.specs.declared.schema.index_record_option.IndexRecordOption.{IndexRecordOption}
use Rattle.ii_base.specs.declared.schema.index_record_option.IndexRecordOption.TheVariants.{WithFreqs}
use Rattle.ii_fieldnorm.specs.Readers.{Norms, id_of_doc, norms_of_ids}
use Rattle.ii_base.specs.Options.{has_freq}
use Rattle.ii_layout.specs.Documents.{documents_at, skip_entry}
use Rattle.ii_layout.specs.Frequencies.{freqs_if, has_freqs}
use Rattle.ii_layout.specs.Postings.{Postings}
use Rattle.ii_layout.specs.SkipList.{SkipEntry, SkipList, skip_list}
use Rattle.ii_layout.specs.TermList.{docs_and_freqs}
use Rattle.ii_layout.proofs.BlockDocs.{get_or-block_of, length-block_of}
use Rattle.ii_termstore.specs.declared.term_info.TermInfo.{TermInfo}
use Rattle.ii_termdict.specs.Dictionary.{info_under}
use Rattle.ii_definitions.specs.Files.{bytes_in}
use Rattle.ii_reader.specs.Bounds.{bounds_of, bounds_read, entry_bounds}
use Rattle.ii_reader.specs.BlockSegmentPostings.{BlockSegmentPostingsState}
use Rattle.ii_reader.specs.InvertedIndexReader.{InvertedIndexReaderState, OpensBlocks, if_they_lie, lies_in}
use Rattle.ii_reader.specs.OpenIndex.{OpenIndexState}
use Rattle.ii_ram.specs.TrueBounds.{IndexHasTrueBounds}
use Rattle.ii_ram.proofs.BoundLaws.{fine, inside_ok}

lain : {A : Type 0} (lies : Bool) (found : Result A Part) (x : A) → if_they_lie lies found ≡ Ok x → found ≡ Ok x
lain true found x is = is
lain false found x is = absurd (cc)

-- The skip list that bounds are read from.
record ReadFrom (recorded : IndexRecordOption) (doc_freq : ℕ) (bytes : List ℕ) (bounds : List (ℕ × ℕ)) : Type 0 where
  skip : SkipList
  listed : skip_list recorded (doc_freq / 128) bytes ≡ Some skip
  are : bounds_of skip ≡ bounds

module _ (recorded requested : IndexRecordOption) (doc_freq : ℕ) (bounds : List (ℕ × ℕ)) where
  after_freqs : (skip : SkipList) (found : List ℕ × List ℕ) (o : Option (Option (List ℕ))) → ((ok_or o Frequencies >>= λ (freqs : Option (List ℕ)). fine (record { skip = skip; docs = found.0; after = found.1; freqs = freqs })) >>= λ (p : Postings). fine (bounds_of p.skip)) ≡ Ok bounds
      → bounds_of skip ≡ bounds
  after_freqs skip found None is = absurd (cc)
  after_freqs skip found (Some freqs) is = inside_ok (bounds_of skip) bounds is

  after_docs : (skip : SkipList) (o : Option (List ℕ × List ℕ))
      → ((ok_or o Documents >>= λ (found : List ℕ × List ℕ). ok_or (freqs_if (has_freq requested && has_freqs skip found.1) skip (doc_freq % 128) found.1) Frequencies >>= λ (freqs : Option (List ℕ)). fine (record { skip = skip; docs = found.0; after = found.1; freqs = freqs }))
      >>= λ (p : Postings). fine (bounds_of p.skip)) ≡ Ok bounds
      → bounds_of skip ≡ bounds
  after_docs skip None is = absurd (cc)
  after_docs skip (Some found) is = after_freqs skip found (freqs_if (has_freq requested && has_freqs skip found.1) skip (doc_freq % 128) found.1) is

  -- the bounds that are read are those of the skip list
  read_from : (bytes : List ℕ) → bounds_read recorded requested doc_freq bytes ≡ Ok bounds → ReadFrom recorded doc_freq bytes bounds
  read_from bytes is = by (skip_list recorded (doc_freq / 128) bytes) refl is
    where
      by : (o : Option SkipList) → skip_list recorded (doc_freq / 128) bytes ≡ o
          → ((ok_or o Skip >>= λ (skip : SkipList). ok_or (documents_at skip (doc_freq % 128)) Documents >>= λ (found : List ℕ × List ℕ). ok_or (freqs_if (has_freq requested && has_freqs skip found.1) skip (doc_freq % 128) found.1) Frequencies >>= λ (freqs : Option (List ℕ)). fine (record { skip = skip; docs = found.0; after = found.1; freqs = freqs }))
          >>= λ (p : Postings). fine (bounds_of p.skip)) ≡ Ok bounds
          → ReadFrom recorded doc_freq bytes bounds
      by None listed read = absurd (cc)
      by (Some skip) listed read = record { skip = skip; listed = listed; are = after_docs skip (documents_at skip (doc_freq % 128)) read }

-- nothing is in an empty list
nothing_at : {A : Type 0} (i : ℕ) (x : A) → slice_get [] i ≡ Some x → ⊥
nothing_at zero x is = absurd (cc)
nothing_at (suc i) x is = absurd (cc)

-- the norm id of a bound is that of the block's entry
entry_of_bound : (entries : List SkipEntry) (i : ℕ) (bound : ℕ × ℕ) → slice_get (map entry_bounds entries) i ≡ Some bound → (skip_entry entries i).block_wand_fieldnorm_id ≡ bound.0
entry_of_bound [] i bound is = absurd (nothing_at i bound is)
entry_of_bound (e ∷ es) zero bound is = ap (λ (b : ℕ × ℕ). b.0) (some-same is)
entry_of_bound (e ∷ es) (suc i) bound is = entry_of_bound es i bound is

norm_of_bound : (skip : SkipList) (i : ℕ) (bound : ℕ × ℕ) → slice_get (bounds_of skip) i ≡ Some bound → (skip_entry skip.entries i).block_wand_fieldnorm_id ≡ bound.0
norm_of_bound skip i bound is = by (has_freq skip.skip_info) is
  where
    by : (b : Bool) → slice_get (if b then map entry_bounds skip.entries else []) i ≡ Some bound → (skip_entry skip.entries i).block_wand_fieldnorm_id ≡ bound.0
    by true at = entry_of_bound skip.entries i bound at
    by false at = absurd (nothing_at i bound at)

-- no norm of a full block's documents is below the norm id of its bound
pub norms_reach_bounds : (index : OpenIndexState) (field : ℕ) (reader : InvertedIndexReaderState) (key : List ℕ) (cursor : BlockSegmentPostingsState) (norms : Norms) → IndexHasTrueBounds index → slice_get index.readers field ≡ Some reader
    → Some norms ≡ option_map norms_of_ids (body_of field index.fieldnorms) → (o : Option TermInfo) → info_under key reader.terms ≡ o → MatchOption o ⊥ (λ info. OpensBlocks reader.validation reader.postings reader.option WithFreqs info cursor)
    → (freqs : List ℕ) (i k : ℕ) (bound : ℕ × ℕ) → cursor.freqs ≡ Some freqs → slice_get cursor.bounds i ≡ Some bound → 128 * i + 128 ≤ length cursor.docs → k < 128 → bound.0 ≤ id_of_doc norms (slice_index cursor.docs (128 * i + k))
norms_reach_bounds index field reader key cursor norms h at normed None found opens freqs i k bound read bounded full within = absurd (opens)
norms_reach_bounds index field reader key cursor norms h at normed (Some info) found opens freqs i k bound read bounded full within = by (body_of field index.fieldnorms) refl normed
  where
    bytes : List ℕ
    bytes = bytes_in reader.postings info.postings_range

    by : (ids : Option (List ℕ)) → body_of field index.fieldnorms ≡ ids → Some norms ≡ option_map norms_of_ids ids → bound.0 ≤ id_of_doc norms (slice_index cursor.docs (128 * i + k))
    by None own is = absurd (cc)
    by (Some ids) own is =
        let true_bounds = h.each field reader ids key info at own found in
        let from = read_from reader.option WithFreqs info.doc_freq cursor.bounds bytes opens.bounds in
        let docs : docs_and_freqs reader.option WithFreqs info.doc_freq bytes ≡ Ok (cursor.docs, Some freqs) =
        lain (lies_in reader.postings info.postings_range) (docs_and_freqs reader.option WithFreqs info.doc_freq bytes) (cursor.docs, cursor.freqs) opens.docs ∙ ap (λ (fs : Option (List ℕ)). Ok (cursor.docs, fs)) read in
        let many = opens.entries.many in
        let block = true_bounds.each cursor.docs freqs from.skip docs from.listed i (omega (arith, full, many)) in
        let size = length-block_of cursor.docs i full in
        let id = norm_of_bound from.skip i bound (ap (λ (bs : List (ℕ × ℕ)). slice_get bs i) from.are ∙ bounded) in
        let least = rw (get_or-block_of cursor.docs i k within) at (block.not_above k (omega (arith, within, size))) in
        subst (λ (n : Norms). bound.0 ≤ id_of_doc n (slice_index cursor.docs (128 * i + k))) (sym (some-same is)) (rw id at least)

-- what a lookup that found something opened
pub opened_blocks : {B : Type 0} (P : TermInfo → B → Type 0) (o : Option TermInfo) (r : Result (Option B) Fault) (b : B) → r ≡ Ok (Some b) → IfNone o (r ≡ Ok None) → IfSome o (λ info. IfOk r (λ found. IsSomeAnd found (P info))) → MatchOption o ⊥ (λ info. P info b)
opened_blocks P None r b is none some = let other : r ≡ Ok None = none in absurd (two r b is other)
  where
    two : {B : Type 0} (r : Result (Option B) Fault) (b : B) → r ≡ Ok (Some b) → r ≡ Ok None → ⊥
    two {B} r b a c =
        let same : Some b ≡ None = inside (sym a ∙ c) in
        absurd (cc)
      where
        inside : ◌≡◌ {A = Result (Option B) Fault} (Ok (Some b)) (Ok None) → Some b ≡ None
        inside e = cc
opened_blocks {B} P (Some info) r b is none some = subst (λ (x : Result (Option B) Fault). IfOk x (λ found. IsSomeAnd found (P info))) is some
