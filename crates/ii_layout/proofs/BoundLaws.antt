-- The written bounds hold, and don't change any length.
use Rattle.std.proofs.Common.{inl, inr, ◌≡◌, ℕ, zero, suc, ◌*◌, ◌/◌, ◌^◌, ◌<◌, ◌≤◌, Bool, true, false, List, [], ◌++◌, drop, get_or, length, map, Option, Some, None, Ok, refl, sym, ap, ◌∙◌, subst, arith, length-append}
use Rattle.std.specs.Prelude.{IsTrue, Result}
use Rattle.std.proofs.lemmas.List.{append-nil}
use Rattle.std.proofs.lemmas.List.{get_or-map, length-map}
use Rattle.std.specs.List.{flat_map, range_with_len}
use Rattle.ii_base.specs.declared.schema.index_record_option.IndexRecordOption.{IndexRecordOption}
use Rattle.ii_base.specs.declared.schema.index_record_option.IndexRecordOption.TheVariants.{Basic, WithFreqs, WithFreqsAndPositions}
use Rattle.ii_base.specs.Options.{has_freq}
use Rattle.ii_io.specs.StepLemmas.{some-same}
use Rattle.ii_io.specs.Vints.{vint_u64}
use Rattle.ii_codes.specs.Blocks.{IsBlock}
use Rattle.ii_fieldnorm.specs.Readers.{Norms, id_of_doc}
use Rattle.ii_layout.specs.Bounds.{fieldnorm_bound, least, term_freq_bound}
use Rattle.ii_layout.specs.Documents.{skip_entry}
use Rattle.ii_layout.specs.SkipList.{SkipList, entry_size, skip_list}
use Rattle.ii_base.specs.Entries.{are_documents}
use Rattle.ii_io.specs.declared.faults.Part.{Part}
use Rattle.ii_layout.specs.TermList.{docs_and_freqs}
use Rattle.ii_layout.specs.Written.{AreFreqs, block_bytes, block_of, entry_bytes, freqs_read, last_before, rest_bytes, skip_bytes, written_postings}
use Rattle.ii_layout.specs.WrittenBounds.{BoundsBlock, BoundsTakeNoRoom, BoundsWhatIsWritten, BoundsWrittenTerms, HasTrueBounds, PlainTermsHaveNoBounds}
use Rattle.ii_layout.proofs.BoundLemmas.{at_least_min, below_code}
use Rattle.ii_layout.proofs.PackingLemmas.{length-entries}
use Rattle.ii_layout.proofs.ReadBackLemmas.{bound_of, entry_for, entry_of-is, freqs_block, norm_of, skip_list_read, tells_basic, tells_same}
use Rattle.ii_layout.proofs.WrittenLaws.{body_of, docs_read, freqs_found, in_parts, none_found}

-- the bounds of an entry that has counts
norm_is : (norms : Option Norms) (skip_info : IndexRecordOption) (docs : List ℕ) → has_freq skip_info ≡ true → norm_of norms skip_info docs ≡ fieldnorm_bound norms docs
norm_is norms Basic docs has = absurd (cc)
norm_is norms WithFreqs docs has = refl
norm_is norms WithFreqsAndPositions docs has = refl

bound_is : (norms : Option Norms) (skip_info : IndexRecordOption) (freqs : List ℕ) → has_freq skip_info ≡ true → bound_of norms skip_info freqs ≡ term_freq_bound norms freqs
bound_is norms Basic freqs has = absurd (cc)
bound_is norms WithFreqs freqs has = refl
bound_is norms WithFreqsAndPositions freqs has = refl

-- no id is below the least one
not_below_least : (norms : Norms) (docs : List ℕ) (k : ℕ) → k < length docs → least (map (id_of_doc norms) docs) ≤ id_of_doc norms (get_or docs k 0)
not_below_least norms docs k within =
    let size = length-map docs (id_of_doc norms) in
    rw (← get_or-map (id_of_doc norms) docs k 0 0 within) (at_least_min 255 (map (id_of_doc norms) docs) k (omega arith))

bounds_entry : (norms : Norms) (recorded : IndexRecordOption) (docs freqs : List ℕ) (i : ℕ) → has_freq recorded ≡ true → IsBlock (block_of freqs i)
    → BoundsBlock norms (entry_for (Some norms) recorded docs freqs i) (block_of docs i) (block_of freqs i)
bounds_entry norms recorded docs freqs i has block =
    let id = norm_is (Some norms) recorded (block_of docs i) has in
    let bound = bound_is (Some norms) recorded (block_of freqs i) has in
    record {
      fieldnorm_id = id;
      term_freq = bound;
      not_above = λ k within. rw id (not_below_least norms (block_of docs i) k within);
      not_below = λ k within. rw bound (below_code (block_of freqs i) block k within);
    }

pub bounds_what_is_written : BoundsWhatIsWritten
bounds_what_is_written norms recorded docs freqs rest skip are few has counts read i within =
    let n = length docs / 128 in
    let listed = ap (skip_list recorded (length docs / 128)) (in_parts (Some norms) recorded docs freqs rest)
    ∙ skip_list_read (Some norms) recorded docs freqs are (λ _. counts) recorded (body_of (Some norms) recorded docs freqs rest) (length docs / 128) (tells_same recorded) (omega arith) few
    in
    let same = some-same (sym read ∙ listed) in
    let entry = ap (λ (s : SkipList). skip_entry s.entries i) same ∙ entry_of-is (Some norms) recorded docs freqs (length docs / 128) i within in
    rw entry (bounds_entry norms recorded docs freqs i has (freqs_block recorded docs freqs i counts (omega arith)))

-- what is read is one value
one_read : (x y : List ℕ × Option (List ℕ)) (read : Result (List ℕ × Option (List ℕ)) Part) → read ≡ Ok x → read ≡ Ok y → x ≡ y
one_read x y read a b = cc

-- so frequencies aren't read and missing
not_both : (docs ds fs : List ℕ) (read : Result (List ℕ × Option (List ℕ)) Part) → read ≡ Ok (ds, Some fs) → read ≡ Ok (docs, None) → ⊥
not_both docs ds fs read some none =
    let apart : Some fs ≡ None = ap (λ (x : List ℕ × Option (List ℕ)). x.1) (one_read (ds, Some fs) (docs, None) read some none) in
    absurd (cc)

some_both : (docs ds fs gs : List ℕ) (read : Result (List ℕ × Option (List ℕ)) Part) → read ≡ Ok (ds, Some fs) → read ≡ Ok (docs, Some gs) → (docs ≡ ds) × (gs ≡ fs)
some_both docs ds fs gs read some other =
    let same = one_read (docs, Some gs) (ds, Some fs) read other some in
    let freqs : Some gs ≡ Some fs = ap (λ (x : List ℕ × Option (List ℕ)). x.1) same in
    (ap (λ (x : List ℕ × Option (List ℕ)). x.0) same, some-same freqs)

-- the documents and frequencies of a term that has frequencies, and of one that has none
read_counted : (norms : Norms) (recorded : IndexRecordOption) (docs freqs : List ℕ) → are_documents docs ≡ true → length docs < 2 ^ 32 → (IsTrue (has_freq recorded) → AreFreqs recorded docs freqs) → 0 < length docs
    → docs_and_freqs recorded WithFreqs (length docs) (written_postings (Some norms) recorded docs freqs) ≡ Ok (docs, freqs_read recorded WithFreqs freqs)
read_counted norms recorded docs freqs are few counts some =
    ap (docs_and_freqs recorded WithFreqs (length docs)) (sym (append-nil (written_postings (Some norms) recorded docs freqs)))
    ∙ docs_read (Some norms) recorded recorded docs freqs [] are few WithFreqs (freqs_read recorded WithFreqs freqs) (tells_same recorded) counts (freqs_found (Some norms) recorded WithFreqs docs freqs [] are few counts some)

read_uncounted : (norms : Norms) (recorded : IndexRecordOption) (docs freqs : List ℕ) → are_documents docs ≡ true → length docs < 2 ^ 32
    → docs_and_freqs recorded WithFreqs (length docs) (written_postings (Some norms) Basic docs freqs) ≡ Ok (docs, None)
read_uncounted norms recorded docs freqs are few =
    ap (docs_and_freqs recorded WithFreqs (length docs)) (sym (append-nil (written_postings (Some norms) Basic docs freqs)))
    ∙ docs_read (Some norms) recorded Basic docs freqs [] are few WithFreqs None (tells_basic recorded) (λ has. absurd (cc)) (none_found (Some norms) recorded WithFreqs docs freqs are few)

-- a term written as its field records it has true bounds
bounds_counted : (norms : Norms) (recorded : IndexRecordOption) (docs freqs : List ℕ) → IsTrue (are_documents docs) → length docs < 2 ^ 32
    → (IsTrue (has_freq recorded) → AreFreqs recorded docs freqs) → HasTrueBounds norms recorded (length docs) (written_postings (Some norms) recorded docs freqs)
bounds_counted norms recorded docs freqs are few counts = record {
  each = λ ds fs skip read listed i within. by_case ds fs skip read listed i within (has_freq recorded) refl;
}
  where
    by_case : (ds fs : List ℕ) (skip : SkipList) → docs_and_freqs recorded WithFreqs (length docs) (written_postings (Some norms) recorded docs freqs) ≡ Ok (ds, Some fs) → skip_list recorded (length docs / 128) (written_postings (Some norms) recorded docs freqs) ≡ Some skip
        → (i : ℕ) → i < length docs / 128 → (b : Bool) → has_freq recorded ≡ b → BoundsBlock norms (skip_entry skip.entries i) (block_of ds i) (block_of fs i)
    by_case ds fs skip read listed i within true has =
        let whole : docs_and_freqs recorded WithFreqs (length docs) (written_postings (Some norms) recorded docs freqs) ≡ Ok (docs, freqs_read recorded WithFreqs freqs) = read_counted norms recorded docs freqs are few counts (omega arith) in
        let kept : freqs_read recorded WithFreqs freqs ≡ Some freqs = rw has refl in
        let same = some_both docs ds fs freqs (docs_and_freqs recorded WithFreqs (length docs) (written_postings (Some norms) recorded docs freqs)) read (whole ∙ ap (λ (o : Option (List ℕ)). Ok (docs, o)) kept) in
        let bounds = bounds_what_is_written norms recorded docs freqs [] skip are few has (counts has) (ap (skip_list recorded (length docs / 128)) (append-nil (written_postings (Some norms) recorded docs freqs)) ∙ listed) i within in
        subst (λ (xs : List ℕ). BoundsBlock norms (skip_entry skip.entries i) (block_of xs i) (block_of fs i)) same.0
        (subst (λ (xs : List ℕ). BoundsBlock norms (skip_entry skip.entries i) (block_of docs i) (block_of xs i)) same.1 bounds)
    by_case ds fs skip read listed i within false has =
        let whole = read_counted norms recorded docs freqs are few counts (omega arith) in
        let kept : freqs_read recorded WithFreqs freqs ≡ None = rw has refl in
        absurd (not_both docs ds fs (docs_and_freqs recorded WithFreqs (length docs) (written_postings (Some norms) recorded docs freqs)) read (whole ∙ ap (λ (o : Option (List ℕ)). Ok (docs, o)) kept))

-- and one written without frequencies has none to be read
bounds_uncounted : (norms : Norms) (recorded : IndexRecordOption) (docs freqs : List ℕ) → IsTrue (are_documents docs) → length docs < 2 ^ 32
    → HasTrueBounds norms recorded (length docs) (written_postings (Some norms) Basic docs freqs)
bounds_uncounted norms recorded docs freqs are few = record {
  each = λ ds fs skip read listed i within. absurd (not_both docs ds fs (docs_and_freqs recorded WithFreqs (length docs) (written_postings (Some norms) Basic docs freqs)) read (read_uncounted norms recorded docs freqs are few));
}

pub bounds_written_terms : BoundsWrittenTerms
bounds_written_terms norms recorded skip_info docs freqs (inl same) are few counts =
    subst (λ (shape : IndexRecordOption). (IsTrue (has_freq shape) → AreFreqs shape docs freqs) → HasTrueBounds norms recorded (length docs) (written_postings (Some norms) shape docs freqs)) (sym same)
    (bounds_counted norms recorded docs freqs are few) counts
bounds_written_terms norms recorded skip_info docs freqs (inr basic) are few counts =
    subst (λ (shape : IndexRecordOption). HasTrueBounds norms recorded (length docs) (written_postings (Some norms) shape docs freqs)) (sym basic)
    (bounds_uncounted norms recorded docs freqs are few)

-- the same number of bytes, whatever the bounds
skip_room : (norms : Option Norms) (skip_info : IndexRecordOption) (docs freqs : List ℕ) (n : ℕ) → length (skip_bytes norms skip_info docs freqs n) ≡ length (skip_bytes None skip_info docs freqs n)
skip_room norms skip_info docs freqs zero = refl
skip_room norms skip_info docs freqs (suc more) =
    let size = vint_u64 (entry_size skip_info * suc more) in
    let ours = length-entries norms skip_info docs freqs (suc more) in
    let bare = length-entries None skip_info docs freqs (suc more) in
    omega (
      arith,
      length-append (vint_u64 (entry_size skip_info * suc more)) (flat_map (entry_bytes norms skip_info docs freqs) (range_with_len 0 (suc more))),
      length-append (vint_u64 (entry_size skip_info * suc more)) (flat_map (entry_bytes None skip_info docs freqs) (range_with_len 0 (suc more))),
    )

pub bounds_take_no_room : BoundsTakeNoRoom
bounds_take_no_room norms skip_info docs freqs =
    let n = length docs / 128 in
    let skip = skip_room norms skip_info docs freqs (length docs / 128) in
    let blocks = flat_map (block_bytes skip_info docs freqs) (range_with_len 0 (length docs / 128)) in
    let rest = rest_bytes skip_info (last_before docs (length docs / 128)) (drop (128 * (length docs / 128)) docs) (drop (128 * (length docs / 128)) freqs) in
    same_rest (skip_bytes norms skip_info docs freqs (length docs / 128)) (skip_bytes None skip_info docs freqs (length docs / 128)) blocks rest skip
  where
    same_rest : (xs ys bs cs : List ℕ) → length xs ≡ length ys → length (xs ++ bs ++ cs) ≡ length (ys ++ bs ++ cs)
    same_rest xs ys bs cs same = omega (arith, length-append (xs ++ bs) cs, length-append xs bs, length-append (ys ++ bs) cs, length-append ys bs)

pub plain_terms_have_no_bounds : PlainTermsHaveNoBounds
plain_terms_have_no_bounds norms docs freqs = refl
