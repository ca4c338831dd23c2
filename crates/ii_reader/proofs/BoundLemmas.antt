-- Laws of the bounds of blocks, and of seeks by term frequency.
use Rattle.std.proofs.Common.{◌≡◌, ℕ, zero, suc, ◌+◌, ◌-◌, ◌*◌, ◌/◌, ◌<◌, ◌≤◌, Bool, true, false, ◌&&◌, ◌==◌, List, [], ◌∷◌, ◌++◌, length, drop, map, get_or, nat_le, nat_lt, max, slice_get, Option, Some, None, option_map, IfSome, IsSome, is_some, Result, Ok, Err, refl, sym, ap, ◌∙◌, arith, length-take, length-drop, if◌then◌else◌}
use Rattle.std.specs.List.{list_all, range_with_len, sum_by}
use Rattle.std.proofs.lemmas.Bool.{and_parts, or_parts, le-leb, lt-leb, leb-true, ltb-true, ltb-false}
use Rattle.std.proofs.Math.Bool.{and-false}
use Rattle.std.proofs.lemmas.List.{drop-map, get_or-map, get_or_past, get_or_default, length-map, drop_all}
use Rattle.std.proofs.lemmas.Option.{slice_get-get_or, slice_get-map, slice_get_past}
use Rattle.std.proofs.lemmas.List.Sums.{sum_by-append, sum_by-cons}
use Rattle.std.proofs.lemmas.List.FromFn.{length-range_with_len}
use Rattle.ii_base.specs.declared.schema.index_record_option.IndexRecordOption.{IndexRecordOption}
use Rattle.ii_base.specs.Options.{has_freq}
use Rattle.ii_base.specs.declared.doc_id.TheConstants.{TERMINATED}
use Rattle.ii_base.specs.Entries.{Entry, document}
use Rattle.ii_docset.specs.Cursor.{doc_at, from_doc, IsAscending, term_freq_at}
use Rattle.ii_docset.proofs.CursorLemmas.{advanced, doc_below, from_doc_here}
use Rattle.ii_layout.specs.SkipList.{SkipList, no_entry}
use Rattle.ii_layout.specs.declared.skip.BlockInfo.{BlockInfo}
use Rattle.ii_layout.specs.declared.skip.BlockInfo.TheVariants.{BitPacked, VInt}
use Rattle.ii_layout.specs.SkipReader.{SkipReaderState, code_of_max_tf, max_tf_of_code}
use Rattle.ii_layout.specs.Postings.{Postings, postings}
use Rattle.ii_io.specs.declared.faults.Part.{Part}
use Rattle.ii_io.specs.Parts.{◌>>=◌}
use Rattle.std.specs.Result.{result_unwrap_or}
use Rattle.ii_check.specs.FreqReading.{freq_reading, freq_reading_of}
use Rattle.ii_layout.specs.Documents.{skip_entry}
use Rattle.ii_layout.specs.Frequencies.{bounds_counts}
use Rattle.ii_layout.specs.Written.{block_of}
use Rattle.ii_layout.specs.TermList.{list_of, positions_if}
use Rattle.ii_layout.proofs.BlockDocs.{get_or-block_of}
use Rattle.ii_check.specs.declared.freq_reading_option.FreqReadingOption.{FreqReadingOption}
use Rattle.ii_check.specs.CheckedPositions.{PositionCounts}
use Rattle.ii_check.specs.CheckedPostings.{CheckedPostingsState, HasDocuments, IsAtBlock, SeeksFreq, excludes, is_passed, is_read}
use Rattle.ii_check.proofs.DecodedBlocksLaws.{allowed_last, allowed_none, allowed_on}
use Rattle.ii_reader.specs.Bounds.{AllowsFreq, AreUnwanted, IsFirstWanted, IsPlaced, PassesBlocks, blocks_with_freq, stored_bounds, bounds_of, bounds_read, bounds_trusted, entry_bounds, freq_bound, is_wanted_at, sought_with_freq, trusted}
use Rattle.ii_reader.specs.BlockSegmentPostings.{AreEntries, BlockSegmentPostingsState, GoesTo, IsLazy, LooksFor, doc_in_block, freq_in_block}
use Rattle.ii_reader.specs.SegmentPostings.{WentLazily}
use Rattle.ii_reader.proofs.CursorLemmas.{doc_at_drop, freq_at, list_docs, length-list}
use Rattle.ii_reader.proofs.SeekLemmas.{rises}
use Rattle.ii_definitions.proofs.ListLaws.{range_append}

-- what bounds a full block, and a block without bounds
bound_there : (skip : SkipList) (k : ℕ) → has_freq skip.skip_info ≡ true → k < length skip.entries → freq_bound (bounds_of skip) k ≡ max_tf_of_code (skip_entry skip.entries k).block_wand_term_freq
bound_there skip k has within = rw has (ap (λ (b : ℕ × ℕ). b.1) (get_or-map entry_bounds skip.entries k no_entry (0, 0) within))

no_bound : (bounds : List (ℕ × ℕ)) (k : ℕ) → length bounds ≤ k → freq_bound bounds k ≡ 0
no_bound bounds k past = ap (λ (b : ℕ × ℕ). b.1) (get_or_past bounds k (0, 0) past)

bounds_many : (skip : SkipList) → has_freq skip.skip_info ≡ true → length (bounds_of skip) ≡ length skip.entries
bounds_many skip has = rw has (length-map skip.entries entry_bounds)

no_bounds : (skip : SkipList) → has_freq skip.skip_info ≡ false → bounds_of skip ≡ []
no_bounds skip none = rw none refl

pub no_entries : (skip : SkipList) → skip.entries ≡ [] → bounds_of skip ≡ []
no_entries skip none = by (has_freq skip.skip_info) refl
  where
    by : (t : Bool) → has_freq skip.skip_info ≡ t → bounds_of skip ≡ []
    by true has = rw (has, none) refl
    by false has = rw has refl

-- a block that isn't passed isn't excluded by its bound
lands_cases : (p : CheckedPostingsState) (target least k : ℕ) (t u : Bool) → HasDocuments p → has_freq p.postings.skip.skip_info ≡ t → nat_lt k (p.doc_freq / 128) ≡ u → (k < p.doc_freq / 128 → is_passed target least p.postings k ≡ false)
    → excludes least (freq_bound (bounds_of p.postings.skip) k) ≡ false
lands_cases p target least k false u has info test found = ap (λ (bs : List (ℕ × ℕ)). excludes least (freq_bound bs k)) (no_bounds p.postings.skip info) ∙ ap (excludes least) (no_bound [] k (omega arith))
lands_cases p target least k true true has info test found =
    let entries = has.entries in
    let full = ltb-true k (p.doc_freq / 128) test in
    ap (excludes least) (bound_there p.postings.skip k info (omega arith)) ∙ (or_parts _ _ (found full)).1
lands_cases p target least k true false has info test found =
    let entries = has.entries in
    let past = ltb-false k (p.doc_freq / 128) test in
    let many = bounds_many p.postings.skip info in
    ap (excludes least) (no_bound (bounds_of p.postings.skip) k (omega arith))

pub lands : (p : CheckedPostingsState) (target least i k : ℕ) → HasDocuments p → SeeksFreq target least p.postings i k → excludes least (freq_bound (bounds_of p.postings.skip) k) ≡ false
lands p target least i k has s =
    let many = has.many in
    lands_cases p target least k (has_freq p.postings.skip.skip_info) (nat_lt k (p.doc_freq / 128)) has refl refl (λ full. s.found (omega arith))

-- documents that lie low, and counts that are few
low_unwanted : (target least : ℕ) (docs freqs : List ℕ) (n : ℕ) → get_or docs n 0 < target → is_wanted_at target least docs freqs n ≡ false
low_unwanted target least docs freqs n low = let unwanted = lt-leb target (get_or docs n 0) low in rw unwanted refl

few_unwanted : (target least : ℕ) (docs freqs : List ℕ) (n : ℕ) → get_or freqs n 0 < least → is_wanted_at target least docs freqs n ≡ false
few_unwanted target least docs freqs n few = let unwanted = lt-leb least (get_or freqs n 0) few in rw unwanted (and-false (nat_le target (get_or docs n 0)))

all_at : (most : ℕ) (xs : List ℕ) (k : ℕ) → list_all (λ (c : ℕ). nat_le c most) xs ≡ true → get_or xs k 0 ≤ most
all_at most [] k all = omega arith
all_at most (x ∷ xs) zero all = leb-true x most (and_parts (nat_le x most) (list_all (λ (c : ℕ). nat_le c most) xs) all).0
all_at most (x ∷ xs) (suc k) all = all_at most xs k (and_parts (nat_le x most) (list_all (λ (c : ℕ). nat_le c most) xs) all).1

excluded_cases : (least bound : ℕ) (freqs : List ℕ) (k : ℕ) (t : Bool) → (bound == 0) ≡ t → excludes least bound ≡ true → bounds_counts bound freqs ≡ true → get_or freqs k 0 < least
excluded_cases least bound freqs k true zero_is out bounds = let wrong = rw zero_is at out in absurd (cc)
excluded_cases least bound freqs k false zero_is out bounds =
    let below = ltb-true bound least (rw zero_is at out) in
    let most = all_at bound freqs k (rw zero_is at bounds) in
    omega arith

passed_cases : (target least i k n : ℕ) (p : CheckedPostingsState) (fs : List ℕ) (t : Bool) → HasDocuments p → p.postings.freqs ≡ Some fs → SeeksFreq target least p.postings i k → 128 * i + 128 ≤ n → n < 128 * k
    → nat_lt (get_or p.postings.docs (128 * (n / 128) + 127) 0) target ≡ t → is_wanted_at target least p.postings.docs fs n ≡ false
passed_cases target least i k n p fs true has read s low high test =
    let within = s.within in
    let last = ltb-true (get_or p.postings.docs (128 * (n / 128) + 127) 0) target test in
    let up = rises p.postings.docs n (128 * (n / 128) + 127) has.ascending (omega arith) (omega arith) in
    low_unwanted target least p.postings.docs fs n (omega arith)
passed_cases target least i k n p fs false has read s low high test =
    let within = s.within in
    let many = has.many in
    let out = rw test at (s.passed (n / 128) (omega arith) (omega arith)) in
    let bounds = has.bounds fs read (n / 128) (omega arith) in
    let few = excluded_cases least (max_tf_of_code (skip_entry p.postings.skip.entries (n / 128)).block_wand_term_freq) (block_of fs (n / 128)) (n - 128 * (n / 128)) (max_tf_of_code (skip_entry p.postings.skip.entries (n / 128)).block_wand_term_freq == 0) refl out bounds in
    let place : 128 * (n / 128) + (n - 128 * (n / 128)) ≡ n = omega arith in
    let here = get_or-block_of fs (n / 128) (n - 128 * (n / 128)) (omega arith) ∙ ap (λ (m : ℕ). get_or fs m 0) place in
    few_unwanted target least p.postings.docs fs n (omega arith)

pub passes : (target least i k : ℕ) (p : CheckedPostingsState) (fs : List ℕ) → HasDocuments p → p.postings.freqs ≡ Some fs → SeeksFreq target least p.postings i k → PassesBlocks target least p.postings.docs fs i k
passes target least i k p fs has read s =
    record { behind = s.behind; within = s.within; between = λ n low high inside. passed_cases target least i k n p fs (nat_lt (get_or p.postings.docs (128 * (n / 128) + 127) 0) target) has read s low high refl }

-- a document of a block and its count, by their place in the list
pub doc_here : (docs : List ℕ) (block idx : ℕ) → idx < length (block_of docs block) → doc_in_block docs block idx ≡ get_or docs (128 * block + idx) 0
doc_here docs block idx inside =
    let size = length-take 128 (drop (128 * block) docs) in
    sym (get_or_default (block_of docs block) idx 0 TERMINATED inside) ∙ get_or-block_of docs block idx (omega arith)

pub wanted_no : (o : Option (List ℕ)) (target least block idx doc : ℕ) (docs : List ℕ) → doc ≡ doc_in_block docs block idx → doc < target → idx < length (block_of docs block)
    → IfSome o (λ (fs : List ℕ). false ≡ is_wanted_at target least docs fs (128 * block + idx))
wanted_no None target least block idx doc docs e low inside = tt
wanted_no (Some fs) target least block idx doc docs e low inside =
    let here = doc_here docs block idx inside in
    sym (low_unwanted target least docs fs (128 * block + idx) (omega arith))

pub wanted_by : (o : Option (List ℕ)) (target least block idx doc freq : ℕ) (docs : List ℕ) → doc ≡ doc_in_block docs block idx → target ≤ doc → freq ≡ freq_in_block o block idx → idx < length (block_of docs block)
    → IfSome o (λ (fs : List ℕ). nat_le least freq ≡ is_wanted_at target least docs fs (128 * block + idx))
wanted_by None target least block idx doc freq docs e high f inside = tt
wanted_by (Some fs) target least block idx doc freq docs e high f inside =
    let size = length-take 128 (drop (128 * block) docs) in
    let here = doc_here docs block idx inside in
    let there = f ∙ get_or-block_of fs block idx (omega arith) in
    let wanted = le-leb target (get_or docs (128 * block + idx) 0) (omega arith) in
    rw (wanted, ← there) refl

-- one document more that isn't wanted
one_more : (target least : ℕ) (docs freqs : List ℕ) (m n k : ℕ) (t : Bool) → AreUnwanted target least docs freqs m n → is_wanted_at target least docs freqs n ≡ false → nat_lt k n ≡ t → m ≤ k → k < n + 1 → k < length docs → is_wanted_at target least docs freqs k ≡ false
one_more target least docs freqs m n k true before here test low high within = before k low (ltb-true k n test) within
one_more target least docs freqs m n k false before here test low high within =
    let past = ltb-false k n test in
    let same : n ≡ k = omega arith in
    ap (is_wanted_at target least docs freqs) (sym same) ∙ here

abbrev pub Unwanted : Option (List ℕ) → ℕ → ℕ → List ℕ → ℕ → ℕ → Type 0
Unwanted o target least docs m n = IfSome o (λ (fs : List ℕ). AreUnwanted target least docs fs m n)

pub unwanted_first : (o : Option (List ℕ)) (target least m : ℕ) (docs : List ℕ) → Unwanted o target least docs m m
unwanted_first None target least m docs = tt
unwanted_first (Some fs) target least m docs = λ k low high within. absurd (omega arith)

pub unwanted_next : (o : Option (List ℕ)) (target least block idx m : ℕ) (docs : List ℕ) (t : Bool) → Unwanted o target least docs m (128 * block + idx) → t ≡ false → IfSome o (λ (fs : List ℕ). t ≡ is_wanted_at target least docs fs (128 * block + idx))
    → Unwanted o target least docs m (128 * block + (idx + 1))
unwanted_next None target least block idx m docs t before unwanted told = tt
unwanted_next (Some fs) target least block idx m docs t before unwanted told =
    let place : 128 * block + (idx + 1) ≡ 128 * block + idx + 1 = omega arith in
    λ k low high within. one_more target least docs fs m (128 * block + idx) k (nat_lt k (128 * block + idx)) before (sym told ∙ unwanted) refl low (omega arith) within

-- a block in which one was found, or none
pub placed_here : (o : Option (List ℕ)) (target least block idx m : ℕ) (docs : List ℕ) (t : Bool) → Unwanted o target least docs m (128 * block + idx) → t ≡ true → IfSome o (λ (fs : List ℕ). t ≡ is_wanted_at target least docs fs (128 * block + idx)) → idx < length (block_of docs block)
    → m ≤ 128 * block + idx → IfSome o (λ (fs : List ℕ). IsPlaced target least docs fs m block idx)
placed_here None target least block idx m docs t before wanted told inside forward = tt
placed_here (Some fs) target least block idx m docs t before wanted told inside forward =
    let size = length-take 128 (drop (128 * block) docs) in
    record { forward = forward; most = omega arith; before = before; there = λ low within. sym told ∙ wanted; full = λ all. absurd (omega arith) }

pub placed_behind : (o : Option (List ℕ)) (target least block from idx place : ℕ) (docs : List ℕ) → Unwanted o target least docs (128 * block + from) (128 * block + idx) → from < 128 → length (block_of docs block) ≤ idx → place ≡ max (length (block_of docs block)) from
    → IfSome o (λ (fs : List ℕ). IsPlaced target least docs fs (128 * block + from) block place)
placed_behind None target least block from idx place docs before few end is = tt
placed_behind (Some fs) target least block from idx place docs before few end is =
    let size = length-take 128 (drop (128 * block) docs) in
    let left = length-drop (128 * block) docs in
    record {
      forward = omega arith;
      most = omega arith;
      before = λ k low high within. before k low (omega arith) within;
      there = λ low within. absurd (omega arith);
      full = λ all. omega arith;
    }

-- how many blocks may have a term frequency of at least `least`
parts_sum : (least i k m : ℕ) (bounds : List (ℕ × ℕ)) → i ≤ k → k ≤ m → blocks_with_freq least bounds i m ≡ blocks_with_freq least bounds i k + blocks_with_freq least bounds k m
parts_sum least i k m bounds first second =
    let all : m - i ≡ (k - i) + (m - k) = omega arith in
    let place : i + 1 + (k - i) ≡ k + 1 = omega arith in
    ap (λ (n : ℕ). sum_by (λ (b : ℕ). if excludes least (freq_bound bounds b) then 0 else 1) (range_with_len (i + 1) n)) all
    ∙ ap (sum_by (λ (b : ℕ). if excludes least (freq_bound bounds b) then 0 else 1)) (range_append (i + 1) (k - i) (m - k) ∙ ap (λ (a : ℕ). range_with_len (i + 1) (k - i) ++ range_with_len a (m - k)) place)
    ∙ sum_by-append (λ (b : ℕ). if excludes least (freq_bound bounds b) then 0 else 1) (range_with_len (i + 1) (k - i)) (range_with_len (k + 1) (m - k))

-- a block that isn't excluded is one of them
last_counts : (least i k : ℕ) (bounds : List (ℕ × ℕ)) → i < k → excludes least (freq_bound bounds k) ≡ false → 1 ≤ blocks_with_freq least bounds i k
last_counts least i k bounds later lands =
    let before : i ≤ k - 1 = omega arith in
    let parts = parts_sum least i (k - 1) k bounds before (omega arith) in
    let size : k - (k - 1) ≡ 1 = omega arith in
    let place : k - 1 + 1 ≡ k = omega arith in
    let one : blocks_with_freq least bounds (k - 1) k ≡ 1 = rw (size, place, lands) refl in
    omega arith

-- there are no more than all
flags_few : (least : ℕ) (bounds : List (ℕ × ℕ)) (xs : List ℕ) → sum_by (λ (b : ℕ). if excludes least (freq_bound bounds b) then 0 else 1) xs ≤ length xs
flags_few least bounds [] = omega arith
flags_few least bounds (x ∷ xs) = by (excludes least (freq_bound bounds x)) refl (flags_few least bounds xs)
  where
    by : (t : Bool) → excludes least (freq_bound bounds x) ≡ t → sum_by (λ (b : ℕ). if excludes least (freq_bound bounds b) then 0 else 1) xs ≤ length xs → sum_by (λ (b : ℕ). if excludes least (freq_bound bounds b) then 0 else 1) (x ∷ xs) ≤ length (x ∷ xs)
    by true e few =
        let first = sum_by-cons (λ (b : ℕ). if excludes least (freq_bound bounds b) then 0 else 1) x xs in
        let here : ◌≡◌ {A = ℕ} (if excludes least (freq_bound bounds x) then 0 else 1) 0 = rw e refl in
        omega arith
    by false e few =
        let first = sum_by-cons (λ (b : ℕ). if excludes least (freq_bound bounds b) then 0 else 1) x xs in
        let here : ◌≡◌ {A = ℕ} (if excludes least (freq_bound bounds x) then 0 else 1) 1 = rw e refl in
        omega arith

pub few_blocks : (least i k : ℕ) (bounds : List (ℕ × ℕ)) → blocks_with_freq least bounds i k ≤ k - i
few_blocks least i k bounds =
    let few = flags_few least bounds (range_with_len (i + 1) (k - i)) in
    let size = length-range_with_len (i + 1) (k - i) in
    omega arith

-- without bounds they are all
ones : (least : ℕ) (xs : List ℕ) → sum_by (λ (b : ℕ). if excludes least (freq_bound [] b) then 0 else 1) xs ≡ length xs
ones least [] = refl
ones least (x ∷ xs) =
    let later = ones least xs in
    let first = sum_by-cons (λ (b : ℕ). if excludes least (freq_bound [] b) then 0 else 1) x xs in
    let out = ap (excludes least) (no_bound [] x (omega arith)) in
    let here : ◌≡◌ {A = ℕ} (if excludes least (freq_bound [] x) then 0 else 1) 1 = ap (λ (t : Bool). if t then 0 else 1) out in
    omega arith

pub all_blocks : (least i k : ℕ) → blocks_with_freq least [] i k ≡ k - i
all_blocks least i k = ones least (range_with_len (i + 1) (k - i)) ∙ length-range_with_len (i + 1) (k - i)

-- A cursor that looks for a count, and the place that it came to.
pub record IsLooking (target least from place : ℕ) (old now : BlockSegmentPostingsState) : Type 0 where
  pub looks : LooksFor least old now
  pub placed : IfSome old.freqs (λ (fs : List ℕ). IsPlaced target least old.docs fs (128 * old.block + from) now.block place)
  pub lazy : IsLazy now

pub looks_on : (least : ℕ) (old now next : BlockSegmentPostingsState) → LooksFor least old now → GoesTo now next next.block → now.block < next.block → excludes least (freq_bound now.bounds next.block) ≡ false → LooksFor least old next
looks_on least old now next was goes later lands =
    let forward = was.forward in
    let docs = was.doc_decodes in
    let freqs = was.freq_decodes in
    let more = goes.doc_decodes in
    let more_freqs = goes.freq_decodes in
    let parts = parts_sum least old.block now.block next.block old.bounds forward (omega arith) in
    let allows = rw was.bounds at lands in
    let one = last_counts least now.block next.block old.bounds later allows in
    record {
      recorded = goes.recorded ∙ was.recorded;
      requested = goes.requested ∙ was.requested;
      docs = goes.docs ∙ was.docs;
      freqs = goes.freqs ∙ was.freqs;
      freq_reading = goes.freq_reading ∙ was.freq_reading;
      bounds = goes.bounds ∙ was.bounds;
      checked = goes.checked ∙ was.checked;
      forward = omega arith;
      doc_blocks = allowed_on (AllowsFreq least old.bounds) old.block now.block next.block old.doc_blocks now.doc_blocks next.doc_blocks forward (omega arith) was.doc_blocks (allowed_last (AllowsFreq least old.bounds) now.block next.block now.doc_blocks next.doc_blocks allows goes.doc_blocks);
      freq_blocks = allowed_on (AllowsFreq least old.bounds) old.block now.block next.block old.freq_blocks now.freq_blocks next.freq_blocks forward (omega arith) was.freq_blocks (allowed_last (AllowsFreq least old.bounds) now.block next.block now.freq_blocks next.freq_blocks allows goes.freq_blocks);
      doc_decodes = omega arith;
      freq_decodes = omega arith;
    }

-- a search begins where the cursor is
pub looks_nowhere : (least : ℕ) (s : BlockSegmentPostingsState) → LooksFor least s s
looks_nowhere least s =
    record {
      recorded = refl;
      requested = refl;
      docs = refl;
      freqs = refl;
      freq_reading = refl;
      bounds = refl;
      checked = refl;
      forward = omega arith;
      doc_blocks = allowed_none (AllowsFreq least s.bounds) s.block s.doc_blocks;
      freq_blocks = allowed_none (AllowsFreq least s.bounds) s.block s.freq_blocks;
      doc_decodes = omega arith;
      freq_decodes = omega arith;
    }

joined_cases : (target least m b c place k : ℕ) (docs fs : List ℕ) (t u : Bool) → IsPlaced target least docs fs m b 128 → PassesBlocks target least docs fs b c → IsPlaced target least docs fs (128 * c + 0) c place → nat_lt k (128 * b + 128) ≡ t → nat_lt k (128 * c) ≡ u
    → m ≤ k → k < 128 * c + place → k < length docs → is_wanted_at target least docs fs k ≡ false
joined_cases target least m b c place k docs fs true u first passes last test other low high within = first.before k low (ltb-true k (128 * b + 128) test) within
joined_cases target least m b c place k docs fs false true first passes last test other low high within = passes.between k (ltb-false k (128 * b + 128) test) (ltb-true k (128 * c) other) within
joined_cases target least m b c place k docs fs false false first passes last test other low high within = let past = ltb-false k (128 * c) other in last.before k (omega arith) high within

pub placed_on : (o : Option (List ℕ)) (target least m b c old_place place : ℕ) (docs : List ℕ) → 128 ≤ old_place → IfSome o (λ (fs : List ℕ). IsPlaced target least docs fs m b old_place)
    → ((fs : List ℕ) → o ≡ Some fs → PassesBlocks target least docs fs b c) → IfSome o (λ (fs : List ℕ). IsPlaced target least docs fs (128 * c + 0) c place)
    → b < c → IfSome o (λ (fs : List ℕ). IsPlaced target least docs fs m c place)
placed_on None target least m b c old_place place docs all first passes last later = tt
placed_on (Some fs) target least m b c old_place place docs all first passes last later =
    let most = first.most in
    let forward = first.forward in
    let whole : old_place ≡ 128 = omega arith in
    let was : IsPlaced target least docs fs m b 128 = rw whole at first in
    record {
      forward = omega arith;
      most = last.most;
      before = λ k low high within. joined_cases target least m b c place k docs fs (nat_lt k (128 * b + 128)) (nat_lt k (128 * c)) was (passes fs refl) last refl refl low high within;
      there = last.there;
      full = last.full;
    }

pub found_first : (o : Option (List ℕ)) (target least m block place : ℕ) (docs : List ℕ) → IfSome o (λ (fs : List ℕ). IsPlaced target least docs fs m block place) → place < 128 → IfSome o (λ (fs : List ℕ). IsFirstWanted target least docs fs m (128 * block + place))
found_first None target least m block place docs placed inside = tt
found_first (Some fs) target least m block place docs placed inside = record { forward = placed.forward; before = placed.before; there = λ within. placed.there inside within }

-- entries by their place
abbrev front_wanted : ℕ → ℕ → List Entry → Bool
front_wanted target least es = nat_le target (doc_at es) && nat_le least (term_freq_at false es)

sought_step : (target least : ℕ) (es : List Entry) → front_wanted target least es ≡ false → sought_with_freq target least es ≡ sought_with_freq target least (drop 1 es)
sought_step target least [] unwanted = refl
sought_step target least (e ∷ es) unwanted = rw unwanted refl

sought_here : (target least : ℕ) (es : List Entry) → front_wanted target least es ≡ true → sought_with_freq target least es ≡ es
sought_here target least [] wanted = refl
sought_here target least (e ∷ es) wanted = rw wanted refl

-- What is asked of a list of entries with their counts.
pub record AreCounted (docs fs : List ℕ) (es : List Entry) : Type 0 where
  pub docs_are : map (λ (e : Entry). e.doc) es ≡ docs
  pub freqs_are : (k : ℕ) → k < length docs → get_or fs k 0 ≡ term_freq_at false (drop k es)

front_is : (target least k : ℕ) (docs fs : List ℕ) (es : List Entry) → AreCounted docs fs es → k < length docs → front_wanted target least (drop k es) ≡ is_wanted_at target least docs fs k
front_is target least k docs fs es a within =
    let doc = sym (doc_at_drop es k) ∙ ap (λ (ds : List ℕ). get_or ds k TERMINATED) a.docs_are ∙ sym (get_or_default docs k 0 TERMINATED within) in
    let freq = a.freqs_are k within in
    (λ j. nat_le target (doc j) && nat_le least (sym freq j))

past_end : (target least k : ℕ) (es : List Entry) → length es ≤ k → sought_with_freq target least (drop k es) ≡ sought_with_freq target least (drop (k + 1) es)
past_end target least k es past = ap (sought_with_freq target least) (drop_all k es past ∙ sym (drop_all (k + 1) es (omega arith)))

step_cases : (target least m n : ℕ) (docs fs : List ℕ) (es : List Entry) (t : Bool) → AreCounted docs fs es → (m + n < length docs → is_wanted_at target least docs fs (m + n) ≡ false) → nat_lt (m + n) (length docs) ≡ t
    → sought_with_freq target least (drop (m + n) es) ≡ sought_with_freq target least (drop (m + n + 1) es)
step_cases target least m n docs fs es true a unwanted test =
    let within = ltb-true (m + n) (length docs) test in
    sought_step target least (drop (m + n) es) (front_is target least (m + n) docs fs es a within ∙ unwanted within) ∙ ap (sought_with_freq target least) (sym (advanced es (m + n)))
step_cases target least m n docs fs es false a unwanted test =
    let past = ltb-false (m + n) (length docs) test in
    let many = length-list docs es a.docs_are in
    past_end target least (m + n) es (omega arith)

skipped : (target least m n : ℕ) (docs fs : List ℕ) (es : List Entry) → AreCounted docs fs es → AreUnwanted target least docs fs m (m + n) → sought_with_freq target least (drop m es) ≡ sought_with_freq target least (drop (m + n) es)
skipped target least m zero docs fs es a unwanted = let same : m ≡ m + 0 = omega arith in ap (λ (k : ℕ). sought_with_freq target least (drop k es)) same
skipped target least m (suc n) docs fs es a unwanted =
    let earlier = skipped target least m n docs fs es a (λ k low high within. unwanted k low (omega arith) within) in
    let next : m + n + 1 ≡ m + suc n = omega arith in
    earlier ∙ step_cases target least m n docs fs es (nat_lt (m + n) (length docs)) a (λ within. unwanted (m + n) (omega arith) (omega arith) within) refl
    ∙ ap (λ (k : ℕ). sought_with_freq target least (drop k es)) next

end_cases : (target least n : ℕ) (docs fs : List ℕ) (es : List Entry) (t : Bool) → AreCounted docs fs es → (n < length docs → is_wanted_at target least docs fs n ≡ true) → nat_lt n (length docs) ≡ t → sought_with_freq target least (drop n es) ≡ drop n es
end_cases target least n docs fs es true a there test =
    let within = ltb-true n (length docs) test in
    sought_here target least (drop n es) (front_is target least n docs fs es a within ∙ there within)
end_cases target least n docs fs es false a there test =
    let past = ltb-false n (length docs) test in
    let many = length-list docs es a.docs_are in
    let none = drop_all n es (omega arith) in
    rw none refl

rest_with_freq : (target least m n : ℕ) (docs fs : List ℕ) (es : List Entry) → AreCounted docs fs es → IsFirstWanted target least docs fs m n → drop n es ≡ sought_with_freq target least (drop m es)
rest_with_freq target least m n docs fs es a f =
    let forward = f.forward in
    let place : m + (n - m) ≡ n = omega arith in
    let before : AreUnwanted target least docs fs m (m + (n - m)) = rw place f.before in
    sym (skipped target least m (n - m) docs fs es a before ∙ ap (λ (k : ℕ). sought_with_freq target least (drop k es)) place ∙ end_cases target least n docs fs es (nat_lt n (length docs)) a f.there refl)

are_counted : (n : ℕ) (docs fs : List ℕ) (deltas : Option (List ℕ)) → AreEntries n docs (Some fs) → AreCounted docs fs (list_of docs (Some fs) deltas)
are_counted n docs fs deltas a =
    let count = (a.freqs_are fs refl).many in
    let many = a.many in
    record { docs_are = list_docs n docs (Some fs) deltas a; freqs_are = λ k within. freq_at docs fs (positions_if (Some fs) deltas) k (omega arith) within }

-- where counts aren't read each is 1
unread_few : (target least : ℕ) (docs : List ℕ) → least ≤ 1 → IsAscending (map document docs) → from_doc target (map document docs) ≡ sought_with_freq target least (map document docs)
unread_few target least [] few up = refl
unread_few target least (d ∷ ds) few up = by (nat_le target d) refl (unread_few target least ds few up.1)
  where
    by : (t : Bool) → nat_le target d ≡ t → from_doc target (map document ds) ≡ sought_with_freq target least (map document ds) → from_doc target (map document (d ∷ ds)) ≡ sought_with_freq target least (map document (d ∷ ds))
    by true e later =
        let one = le-leb least 1 few in
        from_doc_here target (map document (d ∷ ds)) up (leb-true target d e) ∙ (rw (e, one) refl)
    by false e later = rw e later

unread_none : (target least : ℕ) (docs : List ℕ) → 1 < least → sought_with_freq target least (map document docs) ≡ []
unread_none target least [] many = refl
unread_none target least (d ∷ ds) many =
    let unwanted = lt-leb least 1 many in
    let none = and-false (nat_le target d) in
    rw (unwanted, none) (unread_none target least ds many)

nothing_from_end : (es : List Entry) → IsAscending es → from_doc TERMINATED es ≡ []
nothing_from_end [] up = refl
nothing_from_end (e ∷ es) up =
    let below = doc_below es up.1 in
    let high = up.0 in
    let unwanted = lt-leb TERMINATED e.doc (omega arith) in
    rw unwanted (nothing_from_end es up.1)

-- the remaining entries of a cursor's list
pub rest_sought : (o deltas : Option (List ℕ)) (target least n m k : ℕ) (docs : List ℕ) → IsSome o → AreEntries n docs o → IfSome o (λ (fs : List ℕ). IsFirstWanted target least docs fs m k)
    → drop k (list_of docs o deltas) ≡ sought_with_freq target least (drop m (list_of docs o deltas))
rest_sought None deltas target least n m k docs some are first = absurd (cc)
rest_sought (Some fs) deltas target least n m k docs some are first = rest_with_freq target least m k docs fs (list_of docs (Some fs) deltas) (are_counted n docs fs deltas are) first

pub rest_unread_few : (o deltas : Option (List ℕ)) (target least m : ℕ) (docs : List ℕ) → is_some o ≡ false → least ≤ 1 → IsAscending (drop m (list_of docs o deltas))
    → from_doc target (drop m (list_of docs o deltas)) ≡ sought_with_freq target least (drop m (list_of docs o deltas))
rest_unread_few (Some fs) deltas target least m docs none few up = absurd (cc)
rest_unread_few None deltas target least m docs none few up =
    let same = drop-map document m docs in
    rw same (unread_few target least (drop m docs) few (rw same at up))

pub rest_unread_none : (o deltas : Option (List ℕ)) (target least m : ℕ) (docs : List ℕ) → is_some o ≡ false → 1 < least → IsAscending (drop m (list_of docs o deltas))
    → from_doc TERMINATED (drop m (list_of docs o deltas)) ≡ sought_with_freq target least (drop m (list_of docs o deltas))
rest_unread_none (Some fs) deltas target least m docs none many up = absurd (cc)
rest_unread_none None deltas target least m docs none many up =
    let same = drop-map document m docs in
    rw same (nothing_from_end (map document (drop m docs)) (rw same at up) ∙ sym (unread_none target least (drop m docs) many))

-- what was decoded where no bound is trusted
pub unread_decodes : (least old new decodes decodes' : ℕ) (reading : FreqReadingOption) (bounds : List (ℕ × ℕ)) → is_read reading ≡ false → old ≤ new → decodes' + old ≤ decodes + new → decodes' ≤ decodes + blocks_with_freq least (trusted reading bounds) old new
unread_decodes least old new decodes decodes' reading bounds unread forward went =
    let all = all_blocks least old new in
    rw unread (omega arith)

-- a cursor that goes on with another place
pub looking_on : (target least from old_place place : ℕ) (old now next : BlockSegmentPostingsState) → IsLooking target least from old_place old now → 128 ≤ old_place → GoesTo now next next.block → now.block < next.block → excludes least (freq_bound now.bounds next.block) ≡ false
    → ((fs : List ℕ) → now.freqs ≡ Some fs → PassesBlocks target least now.docs fs now.block next.block) → IfSome next.freqs (λ (fs : List ℕ). IsPlaced target least next.docs fs (128 * next.block + 0) next.block place) → IsLazy next
    → IsLooking target least from place old next
looking_on target least from old_place place old now next l all goes later lands passes placed lazy =
    let docs = l.looks.docs in
    let freqs = l.looks.freqs in
    let last : IfSome old.freqs (λ (fs : List ℕ). IsPlaced target least old.docs fs (128 * next.block + 0) next.block place) = rw (goes.freqs ∙ freqs, goes.docs ∙ docs) at placed in
    record {
      looks = looks_on least old now next l.looks goes later lands;
      placed = placed_on old.freqs target least (128 * old.block + from) now.block next.block old_place place old.docs all l.placed (λ fs e. rw docs at (passes fs (freqs ∙ e))) last later;
      lazy = lazy;
    }

-- what a cursor over entries did
pub went_with_freq : (least : ℕ) (old new : BlockSegmentPostingsState) (rest rest' : List Entry) (decodes : ℕ) (counts : PositionCounts) → LooksFor least old new
    → WentLazily (record { rest = rest; doc_freq = length old.docs; freq_reading = old.freq_reading; bounds = trusted old.freq_reading old.bounds; block = old.block; doc_blocks = old.doc_blocks; freq_blocks = old.freq_blocks; doc_decodes = old.doc_decodes; freq_decodes = old.freq_decodes; entries_read = old.entries_read; position_decodes = decodes; checked = old.checked; positions_checked = counts })
    (record { rest = rest'; doc_freq = length new.docs; freq_reading = new.freq_reading; bounds = trusted new.freq_reading new.bounds; block = new.block; doc_blocks = new.doc_blocks; freq_blocks = new.freq_blocks; doc_decodes = new.doc_decodes; freq_decodes = new.freq_decodes; entries_read = new.entries_read; position_decodes = decodes; checked = new.checked; positions_checked = counts })
went_with_freq least old new rest rest' decodes counts l =
    let few = few_blocks least old.block new.block old.bounds in
    let forward = l.forward in
    let docs = l.doc_decodes in
    let freqs = l.freq_decodes in
    record {
      doc_freq = ap length l.docs;
      freq_reading = l.freq_reading;
      bounds = λ j. trusted (l.freq_reading j) (l.bounds j);
      checked = l.checked;
      positions_checked = refl;
      forward = forward;
      doc_blocks = l.doc_blocks.later;
      freq_blocks = l.freq_blocks.later;
      doc_decodes = omega arith;
      freq_decodes = omega arith;
      position_decodes = refl;
    }

-- the trusted bounds by the bytes of a term
pub trusted_read : (recorded requested : IndexRecordOption) (doc_freq : ℕ) (bytes : List ℕ) (reading : FreqReadingOption) (bounds : List (ℕ × ℕ)) → freq_reading recorded requested doc_freq bytes ≡ Ok reading → bounds_read recorded requested doc_freq bytes ≡ Ok bounds
    → bounds_trusted recorded requested doc_freq bytes ≡ Ok (trusted reading bounds)
trusted_read recorded requested doc_freq bytes reading bounds e f = by (postings recorded requested doc_freq bytes) e f
  where
    by : (r : Result Postings Part) → (r >>= λ p. Ok (freq_reading_of requested p)) ≡ Ok reading → (r >>= λ p. Ok (bounds_of p.skip)) ≡ Ok bounds → (r >>= λ p. Ok (trusted (freq_reading_of requested p) (bounds_of p.skip))) ≡ Ok (trusted reading bounds)
    by (Ok p) e f =
        let read = ap (λ (o : Result FreqReadingOption Part). result_unwrap_or o reading) e in
        let found = ap (λ (o : Result (List (ℕ × ℕ)) Part). result_unwrap_or o bounds) f in
        (λ j. Ok (trusted (read j) (found j)))
    by (Err q) e f = absurd (cc)

-- what a reader returns about a block's bounds
abbrev norm_in : BlockInfo → ℕ
norm_in (BitPacked w s f sum norm tf) = norm
norm_in (VInt n) = 0

abbrev tf_in : BlockInfo → ℕ
tf_in (BitPacked w s f sum norm tf) = tf
tf_in (VInt n) = 0

told_cases : (p : CheckedPostingsState) (skip : SkipReaderState) (w f sum norm tf : ℕ) (strict t : Bool) → HasDocuments p → IsAtBlock p skip → has_freq p.postings.skip.skip_info ≡ true → skip.block_info ≡ BitPacked w strict f sum norm tf → nat_lt skip.block (p.doc_freq / 128) ≡ t
    → Some (norm, code_of_max_tf tf) ≡ option_map stored_bounds (slice_get (bounds_of p.postings.skip) skip.block)
told_cases p skip w f sum norm tf strict true has at info e test =
    let entries = has.entries in
    let full = ltb-true skip.block (p.doc_freq / 128) test in
    let told = sym e ∙ (rw test at (ap (λ (r : SkipReaderState). r.block_info) at.reader)) in
    let found = slice_get-map entry_bounds p.postings.skip.entries skip.block ∙ ap (option_map entry_bounds) (slice_get-get_or p.postings.skip.entries skip.block no_entry (omega arith)) in
    let norm_is = ap norm_in told in
    let tf_is = ap tf_in told in
    let whole : slice_get (bounds_of p.postings.skip) skip.block ≡ Some (entry_bounds (skip_entry p.postings.skip.entries skip.block)) = rw info found in
    (λ j. Some (norm_is j, code_of_max_tf (tf_is j))) ∙ sym (ap (option_map stored_bounds) whole)
told_cases p skip w f sum norm tf strict false has at info e test =
    let told = sym e ∙ (rw test at (ap (λ (r : SkipReaderState). r.block_info) at.reader)) in
    absurd (cc)

pub bounds_told : (p : CheckedPostingsState) (skip : SkipReaderState) (w f sum norm tf : ℕ) (strict : Bool) → HasDocuments p → IsAtBlock p skip → has_freq p.postings.skip.skip_info ≡ true → skip.block_info ≡ BitPacked w strict f sum norm tf
    → Some (norm, code_of_max_tf tf) ≡ option_map stored_bounds (slice_get (bounds_of p.postings.skip) skip.block)
bounds_told p skip w f sum norm tf strict has at info e = told_cases p skip w f sum norm tf strict (nat_lt skip.block (p.doc_freq / 128)) has at info e refl

untold_cases : (p : CheckedPostingsState) (skip : SkipReaderState) (n : ℕ) (t : Bool) → HasDocuments p → IsAtBlock p skip → has_freq p.postings.skip.skip_info ≡ true → skip.block_info ≡ VInt n → nat_lt skip.block (p.doc_freq / 128) ≡ t
    → None ≡ option_map stored_bounds (slice_get (bounds_of p.postings.skip) skip.block)
untold_cases p skip n true has at info e test =
    let told = sym e ∙ (rw test at (ap (λ (r : SkipReaderState). r.block_info) at.reader)) in
    absurd (cc)
untold_cases p skip n false has at info e test =
    let entries = has.entries in
    let past = ltb-false skip.block (p.doc_freq / 128) test in
    let many = bounds_many p.postings.skip info in
    sym (ap (option_map stored_bounds) (slice_get_past (bounds_of p.postings.skip) skip.block (omega arith)))

pub bounds_untold : (p : CheckedPostingsState) (skip : SkipReaderState) (n : ℕ) → HasDocuments p → IsAtBlock p skip → has_freq p.postings.skip.skip_info ≡ true → skip.block_info ≡ VInt n → None ≡ option_map stored_bounds (slice_get (bounds_of p.postings.skip) skip.block)
bounds_untold p skip n has at info e = untold_cases p skip n (nat_lt skip.block (p.doc_freq / 128)) has at info e refl

-- counts don't pass the bound of their block
bounded_cases : (p : CheckedPostingsState) (fs : List ℕ) (k : ℕ) (t u : Bool) → HasDocuments p → p.postings.freqs ≡ Some fs → has_freq p.postings.skip.skip_info ≡ t → nat_lt k (p.doc_freq / 128) ≡ u → bounds_counts (freq_bound (bounds_of p.postings.skip) k) (block_of fs k) ≡ true
bounded_cases p fs k false u has read info test = ap (λ (bs : List (ℕ × ℕ)). bounds_counts (freq_bound bs k) (block_of fs k)) (no_bounds p.postings.skip info) ∙ ap (λ (b : ℕ). bounds_counts b (block_of fs k)) (no_bound [] k (omega arith))
bounded_cases p fs k true true has read info test =
    let entries = has.entries in
    let full = ltb-true k (p.doc_freq / 128) test in
    ap (λ (b : ℕ). bounds_counts b (block_of fs k)) (bound_there p.postings.skip k info (omega arith)) ∙ has.bounds fs read k full
bounded_cases p fs k true false has read info test =
    let entries = has.entries in
    let past = ltb-false k (p.doc_freq / 128) test in
    let many = bounds_many p.postings.skip info in
    ap (λ (b : ℕ). bounds_counts b (block_of fs k)) (no_bound (bounds_of p.postings.skip) k (omega arith))

pub bounded : (p : CheckedPostingsState) (fs : List ℕ) (k : ℕ) → HasDocuments p → p.postings.freqs ≡ Some fs → bounds_counts (freq_bound (bounds_of p.postings.skip) k) (block_of fs k) ≡ true
bounded p fs k has read = bounded_cases p fs k (has_freq p.postings.skip.skip_info) (nat_lt k (p.doc_freq / 128)) has read refl refl
