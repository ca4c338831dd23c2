-- Written postings read back as their list.
use Rattle.std.proofs.Common.{◌≡◌, ℕ, zero, suc, ◌+◌, ◌*◌, ◌/◌, ◌%◌, ◌^◌, ◌<◌, ◌≤◌, Bool, true, false, ◌&&◌, ◌||◌, if◌then◌else◌, List, [], ◌∷◌, ◌++◌, length, drop, nat_lt, Option, Some, None, Ok, refl, sym, ap, ◌∙◌, arith, append_assoc, length-append, IsTrue}
use Rattle.std.proofs.Math.Bool.{and-false}
use Rattle.std.proofs.lemmas.Bool.{and_parts, lt-ltb}
use Rattle.std.proofs.lemmas.List.{append-nil}
use Rattle.std.proofs.lemmas.List.FromFn.{length-map-range_with_len}
use Rattle.ii_base.specs.declared.schema.index_record_option.IndexRecordOption.{IndexRecordOption}
use Rattle.ii_base.specs.declared.schema.index_record_option.IndexRecordOption.TheVariants.{Basic, WithFreqs, WithFreqsAndPositions}
use Rattle.ii_base.specs.Options.{has_freq}
use Rattle.ii_io.specs.Vints.{vint_u32, fewest_groups}
use Rattle.ii_codes.specs.SortedVints.{sorted_vints}
use Rattle.ii_codes.specs.UnsortedVints.{unsorted_vints}
use Rattle.ii_base.specs.Entries.{Entry, are_documents}
use Rattle.ii_fieldnorm.specs.Readers.{Norms}
use Rattle.ii_layout.specs.SkipList.{SkipEntry, SkipList, skip_list}
use Rattle.ii_layout.specs.Frequencies.{has_freqs, freqs_at, freqs_if}
use Rattle.ii_layout.specs.Postings.{entries_of, posting_list}
use Rattle.ii_layout.specs.TermList.{docs_and_freqs}
use Rattle.ii_layout.specs.Written.{last_before, rest_freqs, rest_bytes, skip_bytes, written_postings, AreFreqs, freqs_read, ReadsPostingsBack, ReadsUncountedBack, ReadsDocumentsBack}
use Rattle.ii_layout.proofs.ReadBackLemmas.{blocks, entries, entry_for, list_for, shape_at, shape_at-same, TellsShape, tells_same, tells_basic, skip_list_read, documents_read, all_freqs_read}

-- a list of no documents
nothing_read : (recorded : IndexRecordOption) (asked : Bool) (rest : List ℕ) → freqs_if asked (record { skip_info = recorded; entries = []; body = rest }) 0 rest ≡ Some (if asked then Some [] else None)
nothing_read recorded true rest = refl
nothing_read recorded false rest = refl

no_entries : (asked : Bool) (freqs : List ℕ) → entries_of [] (if asked then Some freqs else None) ≡ []
no_entries true freqs = refl
no_entries false freqs = refl

no_documents : (recorded requested : IndexRecordOption) (rest : List ℕ) → posting_list recorded requested 0 rest ≡ Ok []
no_documents recorded requested rest =
    let asked = has_freq requested && has_freqs (record { skip_info = recorded; entries = []; body = rest }) rest in
    rw (nothing_read recorded (has_freq requested && has_freqs (record { skip_info = recorded; entries = []; body = rest }) rest) rest)
    (ap (λ (es : List Entry). Ok es) (no_entries (has_freq requested && has_freqs (record { skip_info = recorded; entries = []; body = rest }) rest) []))

-- counts are there where they are recorded
groups_some : (few : Bool) (b c : ℕ) (bs : List ℕ) → 0 < length (if few then b ∷ [] else c ∷ bs)
groups_some true b c bs = omega arith
groups_some false b c bs = omega arith

pub vint_some : (n : ℕ) → 0 < length (vint_u32 n)
unfolding vint_u32
vint_some n = groups_some (nat_lt n 128) (n + 128) (n % 128) (fewest_groups 3 (n / 128))

vints_some : (freqs : List ℕ) → 0 < length freqs → 0 < length (unsorted_vints freqs)
vints_some [] some = absurd (omega arith)
vints_some (f ∷ fs) some = let first = vint_some f in omega (arith, length-append (vint_u32 f) (unsorted_vints fs))

some_counts : (norms : Option Norms) (skip_info : IndexRecordOption) (docs freqs rest : List ℕ) (n : ℕ) → has_freq skip_info ≡ true → length docs < 128 * n + 128 → 0 < length freqs
    → (nat_lt 0 (length (entries norms skip_info docs freqs n)) || nat_lt 0 (length (rest_freqs skip_info (drop (128 * n) freqs) ++ rest))) ≡ true
some_counts norms skip_info docs freqs rest zero has few some =
    let here : rest_freqs skip_info freqs ≡ unsorted_vints freqs = rw has refl in
    let size = vints_some freqs some in
    rw here (lt-ltb 0 (length (unsorted_vints freqs ++ rest)) (omega (arith, length-append (unsorted_vints freqs) rest)))
some_counts norms skip_info docs freqs rest (suc more) has few some =
    let many = length-map-range_with_len (entry_for norms skip_info docs freqs) 0 (suc more) in
    rw (lt-ltb 0 (length (entries norms skip_info docs freqs (suc more))) (omega arith)) refl

has_counts : (skip_info shape : IndexRecordOption) (body after : List ℕ) (found : List SkipEntry) (has : Bool) → shape ≡ skip_info → has_freq skip_info ≡ has
    → (has ≡ true → (nat_lt 0 (length found) || nat_lt 0 (length after)) ≡ true) → has_freqs (record { skip_info = shape; entries = found; body = body }) after ≡ has
has_counts skip_info shape body after found true same is some = rw (same, is, some refl) refl
has_counts skip_info shape body after found false same is some = rw (same, is) refl

-- counts that are asked for are read
asked_counts : (asked : Bool) (skip : SkipList) (left : ℕ) (after freqs : List ℕ) → (asked ≡ true → freqs_at skip left after ≡ Some freqs)
    → freqs_if asked skip left after ≡ Some (if asked then Some freqs else None)
asked_counts true skip left after freqs read = rw (read refl) refl
asked_counts false skip left after freqs read = refl

-- the skip list that is found, and the bytes after the documents
abbrev pub after_docs : IndexRecordOption → List ℕ → List ℕ → List ℕ → List ℕ
after_docs skip_info docs freqs rest = rest_freqs skip_info (drop (128 * (length docs / 128)) freqs) ++ rest

abbrev pub body_of : Option Norms → IndexRecordOption → List ℕ → List ℕ → List ℕ → List ℕ
body_of norms skip_info docs freqs rest =
    blocks norms skip_info docs freqs (length docs / 128) ++ (sorted_vints (last_before docs (length docs / 128)) (drop (128 * (length docs / 128)) docs) ++ after_docs skip_info docs freqs rest)

pub in_parts : (norms : Option Norms) (skip_info : IndexRecordOption) (docs freqs rest : List ℕ)
    → written_postings norms skip_info docs freqs ++ rest ≡ skip_bytes norms skip_info docs freqs (length docs / 128) ++ body_of norms skip_info docs freqs rest
in_parts norms skip_info docs freqs rest =
    let n = length docs / 128 in
    let tail = sorted_vints (last_before docs (length docs / 128)) (drop (128 * (length docs / 128)) docs) in
    append_assoc (skip_bytes norms skip_info docs freqs (length docs / 128) ++ blocks norms skip_info docs freqs (length docs / 128))
    (rest_bytes skip_info (last_before docs (length docs / 128)) (drop (128 * (length docs / 128)) docs) (drop (128 * (length docs / 128)) freqs)) rest
    ∙ append_assoc (skip_bytes norms skip_info docs freqs (length docs / 128)) (blocks norms skip_info docs freqs (length docs / 128))
    (rest_bytes skip_info (last_before docs (length docs / 128)) (drop (128 * (length docs / 128)) docs) (drop (128 * (length docs / 128)) freqs) ++ rest)
    ∙ ap (λ (xs : List ℕ). skip_bytes norms skip_info docs freqs (length docs / 128) ++ (blocks norms skip_info docs freqs (length docs / 128) ++ xs))
    (append_assoc (sorted_vints (last_before docs (length docs / 128)) (drop (128 * (length docs / 128)) docs)) (rest_freqs skip_info (drop (128 * (length docs / 128)) freqs)) rest)

module _ (norms : Option Norms) (recorded skip_info : IndexRecordOption) (docs freqs rest : List ℕ) (are : are_documents docs ≡ true) (few : length docs < 2 ^ 32) where
  abbrev pub found : SkipList
  found = list_for norms skip_info docs freqs (shape_at recorded skip_info (length docs / 128)) (length docs / 128) (body_of norms skip_info docs freqs rest)

  list_read : (requested : IndexRecordOption) (read : Option (List ℕ)) → TellsShape recorded skip_info → (IsTrue (has_freq skip_info) → AreFreqs skip_info docs freqs)
      → freqs_if (has_freq requested && has_freqs found (after_docs skip_info docs freqs rest)) found (length docs % 128) (after_docs skip_info docs freqs rest) ≡ Some read
      → posting_list recorded requested (length docs) (written_postings norms skip_info docs freqs ++ rest) ≡ Ok (entries_of docs read)
  list_read requested read tells counts counts_read =
      let whole : 128 * (length docs / 128) ≤ length docs = omega arith in
      let all : 128 * (length docs / 128) + length docs % 128 ≡ length docs = omega arith in
      let listed = skip_list_read norms skip_info docs freqs are counts recorded (body_of norms skip_info docs freqs rest) (length docs / 128) tells whole few in
      let documents = documents_read norms skip_info docs freqs are counts (shape_at recorded skip_info (length docs / 128)) (after_docs skip_info docs freqs rest) (length docs / 128) (length docs % 128) all in
      rw (ap (skip_list recorded (length docs / 128)) (in_parts norms skip_info docs freqs rest) ∙ listed, documents, counts_read) refl

  -- and apart
  pub docs_read : (requested : IndexRecordOption) (read : Option (List ℕ)) → TellsShape recorded skip_info → (IsTrue (has_freq skip_info) → AreFreqs skip_info docs freqs)
      → freqs_if (has_freq requested && has_freqs found (after_docs skip_info docs freqs rest)) found (length docs % 128) (after_docs skip_info docs freqs rest) ≡ Some read
      → docs_and_freqs recorded requested (length docs) (written_postings norms skip_info docs freqs ++ rest) ≡ Ok (docs, read)
  docs_read requested read tells counts counts_read =
      let whole : 128 * (length docs / 128) ≤ length docs = omega arith in
      let all : 128 * (length docs / 128) + length docs % 128 ≡ length docs = omega arith in
      let listed = skip_list_read norms skip_info docs freqs are counts recorded (body_of norms skip_info docs freqs rest) (length docs / 128) tells whole few in
      let documents = documents_read norms skip_info docs freqs are counts (shape_at recorded skip_info (length docs / 128)) (after_docs skip_info docs freqs rest) (length docs / 128) (length docs % 128) all in
      rw (ap (skip_list recorded (length docs / 128)) (in_parts norms skip_info docs freqs rest) ∙ listed, documents, counts_read) refl

-- the counts of documents that have them
pub freqs_found : (norms : Option Norms) (recorded requested : IndexRecordOption) (docs freqs rest : List ℕ) (are : are_documents docs ≡ true) (few : length docs < 2 ^ 32) → (IsTrue (has_freq recorded) → AreFreqs recorded docs freqs) → 0 < length docs
    → freqs_if (has_freq requested && has_freqs (found norms recorded recorded docs freqs rest are few) (after_docs recorded docs freqs rest)) (found norms recorded recorded docs freqs rest are few) (length docs % 128) (after_docs recorded docs freqs rest)
    ≡ Some (freqs_read recorded requested freqs)
freqs_found norms recorded requested docs freqs rest are few counts some =
    let all : 128 * (length docs / 128) + length docs % 128 ≡ length docs = omega arith in
    let same = shape_at-same recorded (length docs / 128) in
    let has = has_counts recorded (shape_at recorded recorded (length docs / 128)) (body_of norms recorded docs freqs rest) (after_docs recorded docs freqs rest) (entries norms recorded docs freqs (length docs / 128))
    (has_freq recorded) same refl (λ yes. let many = (counts yes).many in some_counts norms recorded docs freqs rest (length docs / 128) yes (omega arith) (omega arith))
    in
    let read = asked_counts (has_freq requested && has_freq recorded) (found norms recorded recorded docs freqs rest are few) (length docs % 128) (after_docs recorded docs freqs rest) freqs
    (λ asked.
    let yes = (and_parts (has_freq requested) (has_freq recorded) asked).1 in
    ap (λ (shape : IndexRecordOption). freqs_at (list_for norms recorded docs freqs shape (length docs / 128) (body_of norms recorded docs freqs rest)) (length docs % 128) (after_docs recorded docs freqs rest)) same
    ∙ all_freqs_read norms recorded docs freqs are counts yes (sorted_vints (last_before docs (length docs / 128)) (drop (128 * (length docs / 128)) docs) ++ after_docs recorded docs freqs rest) rest
    (length docs / 128) (length docs % 128) all)
    in
    ap (λ (b : Bool). freqs_if (has_freq requested && b) (found norms recorded recorded docs freqs rest are few) (length docs % 128) (after_docs recorded docs freqs rest)) has ∙ read

-- documents with counts
some_read : (norms : Option Norms) (recorded requested : IndexRecordOption) (docs freqs rest : List ℕ) → are_documents docs ≡ true → length docs < 2 ^ 32 → (IsTrue (has_freq recorded) → AreFreqs recorded docs freqs) → 0 < length docs
    → posting_list recorded requested (length docs) (written_postings norms recorded docs freqs ++ rest) ≡ Ok (entries_of docs (freqs_read recorded requested freqs))
some_read norms recorded requested docs freqs rest are few counts some =
    list_read norms recorded recorded docs freqs rest are few requested (freqs_read recorded requested freqs) (tells_same recorded) counts (freqs_found norms recorded requested docs freqs rest are few counts some)

-- and none
none_left : (recorded : IndexRecordOption) (freqs : List ℕ) → (IsTrue (has_freq recorded) → AreFreqs recorded [] freqs) → rest_freqs recorded freqs ≡ []
none_left Basic freqs counts = refl
none_left WithFreqs [] counts = refl
none_left WithFreqs (f ∷ fs) counts = let many = (counts refl).many in absurd (omega arith)
none_left WithFreqsAndPositions [] counts = refl
none_left WithFreqsAndPositions (f ∷ fs) counts = let many = (counts refl).many in absurd (omega arith)

pub reads_postings_back : ReadsPostingsBack
reads_postings_back norms recorded requested [] freqs rest are few counts =
    ap (λ (left : List ℕ). posting_list recorded requested 0 (left ++ rest)) (none_left recorded freqs counts)
    ∙ no_documents recorded requested rest
    ∙ ap (λ (es : List Entry). Ok es) (sym (no_entries (has_freq requested && has_freq recorded) freqs))
reads_postings_back norms recorded requested (d ∷ ds) freqs rest are few counts = some_read norms recorded requested (d ∷ ds) freqs rest are few counts (omega arith)

pub reads_documents_back : ReadsDocumentsBack
reads_documents_back docs rest are few = reads_postings_back None Basic Basic docs [] rest are few (λ has. absurd (cc))

-- a term without counts has none, where nothing follows
no_counts : (norms : Option Norms) (recorded : IndexRecordOption) (docs freqs body : List ℕ) (n : ℕ) → has_freqs (list_for norms Basic docs freqs (shape_at recorded Basic n) n body) [] ≡ false
no_counts norms recorded docs freqs body zero = and-false (has_freq recorded)
no_counts norms recorded docs freqs body (suc more) = refl

pub none_found : (norms : Option Norms) (recorded requested : IndexRecordOption) (docs freqs : List ℕ) (are : are_documents docs ≡ true) (few : length docs < 2 ^ 32)
    → freqs_if (has_freq requested && has_freqs (found norms recorded Basic docs freqs [] are few) []) (found norms recorded Basic docs freqs [] are few) (length docs % 128) [] ≡ Some None
none_found norms recorded requested docs freqs are few =
    ap (λ (b : Bool). freqs_if (has_freq requested && b) (found norms recorded Basic docs freqs [] are few) (length docs % 128) []) (no_counts norms recorded docs freqs (body_of norms Basic docs freqs []) (length docs / 128))
    ∙ ap (λ (b : Bool). freqs_if b (found norms recorded Basic docs freqs [] are few) (length docs % 128) []) (and-false (has_freq requested))

pub reads_uncounted_back : ReadsUncountedBack
reads_uncounted_back norms recorded requested docs freqs are few =
    ap (posting_list recorded requested (length docs)) (sym (append-nil (written_postings norms Basic docs freqs)))
    ∙ list_read norms recorded Basic docs freqs [] are few requested None (tells_basic recorded) (λ has. absurd (cc)) (none_found norms recorded requested docs freqs are few)
