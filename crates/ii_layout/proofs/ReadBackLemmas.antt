-- What is written for a term reads back.
use Rattle.std.proofs.Common.{◌≡◌, ℕ, zero, suc, ◌+◌, ◌-◌, ◌*◌, ◌/◌, ◌%◌, ◌^◌, ◌<◌, ◌≤◌, true, List, [], ◌∷◌, ◌++◌, map, length, take, drop, get_or, nat_le, Option, Some, refl, sym, ap, ◌∙◌, arith, append_assoc, length-append, IsTrue}
use Rattle.std.proofs.Math.Seq.{take-add}
use Rattle.std.proofs.lemmas.Bool.{le-leb, lt-ltb, le-ltb, eq-eqb}
use Rattle.std.proofs.lemmas.List.{drop_at, take-append-drop, length-drop, get_or-drop, append-nil, length-map}
use Rattle.std.proofs.lemmas.List.Folds.{concat-append}
use Rattle.std.proofs.lemmas.List.FromFn.{get_or-map-range_with_len, length-map-range_with_len, take-map-range_with_len, map-range_with_len_more, sum_by-map-range_with_len_more}
use Rattle.std.specs.List.{flat_map, range_with_len, concat, list_all, sum, sum_by, AllByRecursion}
use Rattle.ii_base.specs.declared.schema.index_record_option.IndexRecordOption.{IndexRecordOption}
use Rattle.ii_base.specs.declared.schema.index_record_option.IndexRecordOption.TheVariants.{Basic, WithFreqs, WithFreqsAndPositions}
use Rattle.ii_base.specs.Options.{has_freq}
use Rattle.ii_io.specs.Numbers.{le_bytes}
use Rattle.ii_io.specs.Steps.{◌>>=◌, needs}
use Rattle.ii_io.specs.Vints.{vint_u64}
use Rattle.ii_io.specs.VintLemmas.{u64_at-vint_u64}
use Rattle.ii_base.specs.Entries.{are_documents}
use Rattle.ii_io.specs.Vints.{u32s_at}
use Rattle.ii_codes.specs.Blocks.{sorted_width, sorted_entries, sorted_bytes, unsorted_width, unsorted_entries, unsorted_bytes, IsBlock, AscendsAfter}
use Rattle.ii_codes.specs.UnsortedVints.{unsorted_vints}
use Rattle.ii_codes.specs.SortedVints.{sorted_vints_at, sorted_vints}
use Rattle.ii_codes.proofs.BlockLaws.{reads_sorted_blocks, reads_unsorted_blocks}
use Rattle.ii_codes.proofs.PackedLaws.{length-packed}
use Rattle.ii_codes.proofs.SortedVintLemmas.{reads_back, reads_unsorted_back}
use Rattle.ii_codes.proofs.WidthLemmas.{least_width-least}
use Rattle.ii_fieldnorm.specs.Readers.{Norms}
use Rattle.ii_layout.specs.Bounds.{fieldnorm_bound, term_freq_bound}
use Rattle.ii_layout.specs.Each.{each}
use Rattle.ii_layout.specs.SkipList.{SkipEntry, SkipList, no_entry, entry_at, entry_size, entries_at, skip_info_of, skip_list, block_size, block_place}
use Rattle.ii_layout.specs.SkipReader.{max_tf_of_code}
use Rattle.ii_layout.specs.Documents.{skip_entry, last_doc_before, block_docs, rest_docs, documents_at}
use Rattle.ii_layout.specs.Frequencies.{bounds_counts, has_sum, block_freqs, freqs_at}
use Rattle.ii_layout.specs.Written.{block_of, last_before, code_of_width, freq_part, packed_freqs, rest_freqs, entry_bytes, block_bytes, skip_bytes, AreFreqs}
use Rattle.ii_layout.specs.PostingsSerializer.{IsFullBlock}
use Rattle.ii_layout.proofs.BoundLemmas.{bound_holds}
use Rattle.ii_layout.proofs.BlockDocs.{full_block, rest_falls, document_low, get_or-block_of, length-block_of}
use Rattle.ii_layout.proofs.PackingLemmas.{narrow, flat_map-range, length-entries}

-- rows of a list, from a place on
pub flat_map-split : (f : ℕ → List ℕ) (a i m : ℕ) → flat_map f (range_with_len a (i + m)) ≡ flat_map f (range_with_len a i) ++ flat_map f (range_with_len (a + i) m)
flat_map-split f a zero m =
    let none : 0 + m ≡ m = omega arith in
    let here : a ≡ a + 0 = omega arith in
    λ j. flat_map f (range_with_len (here j) (none j))
flat_map-split f a (suc i) m =
    let more : suc i + m ≡ suc (i + m) = omega arith in
    let here : a + 1 + i ≡ a + suc i = omega arith in
    ap (λ (k : ℕ). flat_map f (range_with_len a k)) more
    ∙ ap (λ (xs : List ℕ). f a ++ xs) (flat_map-split f (a + 1) i m ∙ ap (λ (k : ℕ). flat_map f (range_with_len (a + 1) i) ++ flat_map f (range_with_len k m)) here)
    ∙ sym (append_assoc (f a) (flat_map f (range_with_len (a + 1) i)) (flat_map f (range_with_len (a + suc i) m)))

-- a row is after all rows before it
pub row_at : (f : ℕ → List ℕ) (i m place : ℕ) (after : List ℕ) → place ≡ length (flat_map f (range_with_len 0 i))
    → drop place (flat_map f (range_with_len 0 (i + suc m)) ++ after) ≡ f i ++ (flat_map f (range_with_len (i + 1) m) ++ after)
row_at f i m place after e =
    let here : 0 + i ≡ i = omega arith in
    let split = flat_map-split f 0 i (suc m) ∙ ap (λ (k : ℕ). flat_map f (range_with_len 0 i) ++ flat_map f (range_with_len k (suc m))) here in
    let parted = ap (λ (xs : List ℕ). xs ++ after) split ∙ append_assoc (flat_map f (range_with_len 0 i)) (flat_map f (range_with_len i (suc m))) after in
    ap (λ (xs : List ℕ). drop place xs) parted
    ∙ drop_at (flat_map f (range_with_len 0 i)) (flat_map f (range_with_len i (suc m)) ++ after) place (sym e)
    ∙ append_assoc (f i) (flat_map f (range_with_len (i + 1) m)) after

pub left_of : (i n : ℕ) → i < n → (m : ℕ) × (n ≡ i + suc m)
left_of i n h = (n - (i + 1), omega arith)

-- the width and the sum of the counts in an entry, which are 0 where it has none
abbrev pub width_of : IndexRecordOption → List ℕ → ℕ
width_of Basic freqs = 0
width_of WithFreqs freqs = unsorted_width true freqs
width_of WithFreqsAndPositions freqs = unsorted_width true freqs

abbrev pub sum_of : IndexRecordOption → List ℕ → ℕ
sum_of Basic freqs = 0
sum_of WithFreqs freqs = 0
sum_of WithFreqsAndPositions freqs = sum freqs

-- and the bounds of the block
abbrev pub norm_of : Option Norms → IndexRecordOption → List ℕ → ℕ
norm_of norms Basic docs = 0
norm_of norms WithFreqs docs = fieldnorm_bound norms docs
norm_of norms WithFreqsAndPositions docs = fieldnorm_bound norms docs

abbrev pub bound_of : Option Norms → IndexRecordOption → List ℕ → ℕ
bound_of norms Basic freqs = 0
bound_of norms WithFreqs freqs = term_freq_bound norms freqs
bound_of norms WithFreqsAndPositions freqs = term_freq_bound norms freqs

-- the entry of a block
abbrev pub entry_for : Option Norms → IndexRecordOption → List ℕ → List ℕ → ℕ → SkipEntry
entry_for norms skip_info docs freqs i =
    record {
      last_doc = get_or (block_of docs i) 127 0;
      strict_delta = true;
      doc_num_bits = sorted_width (last_before docs i) (block_of docs i);
      tf_num_bits = width_of skip_info (block_of freqs i);
      tf_sum = sum_of skip_info (block_of freqs i);
      block_wand_fieldnorm_id = norm_of norms skip_info (block_of docs i);
      block_wand_term_freq = bound_of norms skip_info (block_of freqs i);
    }

-- an entry is read as it was written
four_bytes : (d : ℕ) → d < 2 ^ 32 → d % 256 + 256 * (d / 256 % 256 + 256 * (d / 256 / 256 % 256 + 256 * (d / 256 / 256 / 256 % 256 + 256 * 0))) ≡ d
four_bytes d fits = omega arith

strict_code : (w : ℕ) → w < 32 → (64 + w) / 64 % 2 ≡ 1
strict_code w thin = omega arith

width_code : (w : ℕ) → w < 32 → (64 + w) % 32 ≡ w
width_code w thin = omega arith

entry_read : (norms : Option Norms) (skip_info : IndexRecordOption) (d w : ℕ) (docs freqs later : List ℕ) → d < 2 ^ 32 → w < 32 → sum_of skip_info freqs < 2 ^ 32
    → entry_at skip_info (le_bytes 4 d ++ code_of_width w ∷ [] ++ freq_part norms skip_info docs freqs ++ later)
    ≡ record { last_doc = d; strict_delta = true; doc_num_bits = w; tf_num_bits = width_of skip_info freqs; tf_sum = sum_of skip_info freqs; block_wand_fieldnorm_id = norm_of norms skip_info docs; block_wand_term_freq = bound_of norms skip_info freqs }
unfolding entry_at le_bytes
entry_read norms Basic d w docs freqs later fits thin small = rw (four_bytes d fits, strict_code w thin, width_code w thin) refl
entry_read norms WithFreqs d w docs freqs later fits thin small = rw (four_bytes d fits, strict_code w thin, width_code w thin) refl
entry_read norms WithFreqsAndPositions d w docs freqs later fits thin small = rw (four_bytes d fits, four_bytes (sum freqs) small, strict_code w thin, width_code w thin) refl

-- counts of a block that may be written
small_sum : (skip_info : IndexRecordOption) (docs freqs : List ℕ) (i : ℕ) → (IsTrue (has_freq skip_info) → AreFreqs skip_info docs freqs) → 128 * i + 128 ≤ length docs
    → sum_of skip_info (block_of freqs i) < 2 ^ 32
small_sum Basic docs freqs i counts whole = omega arith
small_sum WithFreqs docs freqs i counts whole = omega arith
small_sum WithFreqsAndPositions docs freqs i counts whole = let many = (counts refl).many in (counts refl).sums refl i (omega arith)

pub freqs_block : (skip_info : IndexRecordOption) (docs freqs : List ℕ) (i : ℕ) → AreFreqs skip_info docs freqs → 128 * i + 128 ≤ length docs → IsBlock (block_of freqs i)
freqs_block skip_info docs freqs i counts whole =
    let many = counts.many in
    record {
      many = length-block_of freqs i (omega arith);
      fit = λ k h. rw (get_or-block_of freqs i k h) (counts.fit (128 * i + k) (omega arith));
    }

lowered-le : (vs : List ℕ) (k : ℕ) → get_or (map (λ (v : ℕ). v - 1) vs) k 0 ≤ get_or vs k 0
lowered-le [] k = omega arith
lowered-le (v ∷ vs) zero = omega arith
lowered-le (v ∷ vs) (suc k) = lowered-le vs k

narrow_freqs : (freqs : List ℕ) → IsBlock freqs → unsorted_width true freqs ≤ 32
narrow_freqs freqs block =
    let many = block.many in
    least_width-least (unsorted_entries true freqs) 32 (λ k h. let size = length-map freqs (λ (v : ℕ). v - 1) in let fit = block.fit k (omega arith) in let below = lowered-le freqs k in omega arith)

narrow_width : (skip_info : IndexRecordOption) (docs freqs : List ℕ) (i : ℕ) → (IsTrue (has_freq skip_info) → AreFreqs skip_info docs freqs) → 128 * i + 128 ≤ length docs
    → width_of skip_info (block_of freqs i) ≤ 32
narrow_width Basic docs freqs i counts whole = omega arith
narrow_width WithFreqs docs freqs i counts whole = narrow_freqs (block_of freqs i) (freqs_block WithFreqs docs freqs i (counts refl) whole)
narrow_width WithFreqsAndPositions docs freqs i counts whole = narrow_freqs (block_of freqs i) (freqs_block WithFreqsAndPositions docs freqs i (counts refl) whole)

-- a row of values that are the same
pub map-same : {X : Type 0} (f g : ℕ → X) (a n : ℕ) → ((k : ℕ) → k < a + n → g k ≡ f k) → map g (range_with_len a n) ≡ map f (range_with_len a n)
map-same f g a zero same = refl
map-same f g a (suc n) same =
    let first = same a (omega arith) in
    let others = map-same f g (a + 1) n (λ k h. same k (omega arith)) in
    λ j. first j ∷ others j

-- the shape of the entries that are found: as the field records if there is no block
abbrev pub shape_at : IndexRecordOption → IndexRecordOption → ℕ → IndexRecordOption
shape_at recorded skip_info zero = recorded
shape_at recorded skip_info (suc more) = skip_info

pub shape_at-same : (skip_info : IndexRecordOption) (n : ℕ) → shape_at skip_info skip_info n ≡ skip_info
shape_at-same skip_info zero = refl
shape_at-same skip_info (suc more) = refl

-- the number of bytes of the entries determines their shape
abbrev pub TellsShape : IndexRecordOption → IndexRecordOption → Type 0
TellsShape recorded skip_info = (more : ℕ) → skip_info_of recorded (suc more) (entry_size skip_info * suc more) ≡ skip_info

pub tells_basic : (recorded : IndexRecordOption) → TellsShape recorded Basic
tells_basic recorded more = rw (lt-ltb (5 * suc more) (8 * suc more) (omega arith)) refl

pub tells_same : (skip_info : IndexRecordOption) → TellsShape skip_info skip_info
tells_same Basic more = tells_basic Basic more
tells_same WithFreqs more = rw (le-ltb (8 * suc more) (8 * suc more) (omega arith)) refl
tells_same WithFreqsAndPositions more = rw (le-ltb (12 * suc more) (8 * suc more) (omega arith)) refl

size_fits : (skip_info : IndexRecordOption) (n : ℕ) → n < 2 ^ 32 → entry_size skip_info * n < 2 ^ 64
size_fits Basic n few = omega arith
size_fits WithFreqs n few = omega arith
size_fits WithFreqsAndPositions n few = omega arith

abbrev sized_list : IndexRecordOption → ℕ → ℕ → List ℕ → Option SkipList
sized_list shape more len bytes =
    needs (nat_le len (length bytes)) >>= λ _. needs (nat_le (entry_size shape * suc more) len) >>= λ _.
    needs (list_all (λ (e : SkipEntry). nat_le e.tf_num_bits 32) (entries_at shape (suc more) bytes)) >>= λ _.
    Some (record { skip_info = shape; entries = entries_at shape (suc more) bytes; body = drop len bytes })

abbrev listed : IndexRecordOption → List SkipEntry → List ℕ → Option SkipList
listed shape es body = needs (list_all (λ (e : SkipEntry). nat_le e.tf_num_bits 32) es) >>= λ _. Some (record { skip_info = shape; entries = es; body = body })

-- the frequencies, if the option has them
width_is : (skip_info : IndexRecordOption) (freqs : List ℕ) → has_freq skip_info ≡ true → width_of skip_info freqs ≡ unsorted_width true freqs
width_is Basic freqs has = absurd (cc)
width_is WithFreqs freqs has = refl
width_is WithFreqsAndPositions freqs has = refl

sum_is : (skip_info : IndexRecordOption) (freqs : List ℕ) → has_sum skip_info (sum_of skip_info freqs) freqs ≡ true
sum_is Basic freqs = refl
sum_is WithFreqs freqs = refl
sum_is WithFreqsAndPositions freqs = eq-eqb (sum freqs) (sum freqs) refl

-- no count is above the bound that is written
bound_stands : (norms : Option Norms) (skip_info : IndexRecordOption) (freqs : List ℕ) → IsBlock freqs → bounds_counts (max_tf_of_code (bound_of norms skip_info freqs)) freqs ≡ true
bound_stands norms Basic freqs block = refl
bound_stands norms WithFreqs freqs block = bound_holds norms freqs block
bound_stands norms WithFreqsAndPositions freqs block = bound_holds norms freqs block

length-packed_freqs : (skip_info : IndexRecordOption) (freqs : List ℕ) → length (packed_freqs skip_info freqs) ≡ 16 * width_of skip_info freqs
length-packed_freqs Basic freqs = refl
length-packed_freqs WithFreqs freqs = length-packed (unsorted_width true freqs) (unsorted_entries true freqs)
length-packed_freqs WithFreqsAndPositions freqs = length-packed (unsorted_width true freqs) (unsorted_entries true freqs)

-- a block of documents is a block of 32 bits
is_block : (last : ℕ) (block : List ℕ) → IsFullBlock last block → IsBlock block
is_block last block b = record { many = b.many; fit = λ k h. let low = b.low k h in omega arith }

ascends_after : (last : ℕ) (block : List ℕ) → IsFullBlock last block → AscendsAfter last block
ascends_after last block b = record { ascending = b.ascending; after = b.after }

pub each-some : (f : ℕ → Option (List ℕ)) (g : ℕ → List ℕ) (n : ℕ) → ((k : ℕ) → k < n → f k ≡ Some (g k)) → each f n ≡ Some (map g (range_with_len 0 n))
each-some f g zero some = refl
each-some f g (suc n) some =
    let earlier = each-some f g n (λ k h. some k (omega arith)) in
    let last = some n (omega arith) in
    let next : suc n ≡ n + 1 = omega arith in
    let row = map-range_with_len_more g 0 n n (omega arith) in
    let all = ap (λ (k : ℕ). map g (range_with_len 0 k)) next ∙ row in
    rw (earlier, last) (ap (λ (xs : List (List ℕ)). Some xs) (sym all))

-- the documents of all full blocks, and those after them
pub blocks_are : (docs : List ℕ) (i : ℕ) → concat (map (block_of docs) (range_with_len 0 i)) ≡ take (128 * i) docs
blocks_are docs zero = refl
blocks_are docs (suc i) =
    let next : suc i ≡ i + 1 = omega arith in
    let row = ap (λ (k : ℕ). map (block_of docs) (range_with_len 0 k)) next ∙ map-range_with_len_more (block_of docs) 0 i i (omega arith) in
    let place : 128 * i + 128 ≡ 128 * suc i = omega arith in
    ap concat row ∙ concat-append (map (block_of docs) (range_with_len 0 i)) (block_of docs i ∷ [])
    ∙ (λ j. blocks_are docs i j ++ append-nil (block_of docs i) j)
    ∙ sym (take-add (128 * i) 128 docs) ∙ ap (λ (k : ℕ). take k docs) place

pub fit_by : (vs : List ℕ) → ((k : ℕ) → k < length vs → get_or vs k 0 < 2 ^ 32) → AllByRecursion (λ v. v < 2 ^ 32) vs
fit_by [] h = tt
fit_by (v ∷ vs) h = (h 0 (omega arith), fit_by vs (λ k within. h (suc k) (omega arith)))

rest_fits : (docs : List ℕ) (i : ℕ) → are_documents docs ≡ true → AllByRecursion (λ v. v < 2 ^ 32) (drop (128 * i) docs)
rest_fits docs i h =
    let size = length-drop (128 * i) docs in
    fit_by (drop (128 * i) docs) (λ k within. let here = get_or-drop (128 * i) docs k 0 in let low = document_low docs (128 * i + k) h (omega arith) in omega arith)

module _ (norms : Option Norms) (skip_info : IndexRecordOption) (docs freqs : List ℕ) where
  abbrev pub rows : ℕ → List ℕ
  rows n = flat_map (entry_bytes norms skip_info docs freqs) (range_with_len 0 n)

  abbrev pub blocks : ℕ → List ℕ
  blocks n = flat_map (block_bytes skip_info docs freqs) (range_with_len 0 n)

  abbrev pub entries : ℕ → List SkipEntry
  entries n = map (entry_for norms skip_info docs freqs) (range_with_len 0 n)

  abbrev pub list_for : IndexRecordOption → ℕ → List ℕ → SkipList
  list_for shape n body = record { skip_info = shape; entries = entries n; body = body }

  -- the place of a block is after all before it
  place_is : (i : ℕ) → sum_by block_size (entries i) ≡ length (blocks i)
  place_is zero = refl
  place_is (suc i) =
      let next : suc i ≡ i + 1 = omega arith in
      let here : 0 + i ≡ i = omega arith in
      let total = sum_by-map-range_with_len_more block_size (entry_for norms skip_info docs freqs) 0 i i here in
      let size = length-packed (sorted_width (last_before docs i) (block_of docs i)) (sorted_entries true (last_before docs i) (block_of docs i)) in
      let counts = length-packed_freqs skip_info (block_of freqs i) in
      let both = length-append (sorted_bytes (last_before docs i) (block_of docs i)) (packed_freqs skip_info (block_of freqs i)) in
      let all = ap length (flat_map-range (block_bytes skip_info docs freqs) i) in
      let ih = place_is i in
      let sums = ap (λ (k : ℕ). sum_by block_size (map (entry_for norms skip_info docs freqs) (range_with_len 0 k))) next in
      omega (arith, length-append (flat_map (block_bytes skip_info docs freqs) (range_with_len 0 i)) (block_bytes skip_info docs freqs i))

  block_place-is : (n i : ℕ) → i ≤ n → block_place (entries n) i ≡ length (blocks i)
  block_place-is n i h = ap (sum_by block_size) (take-map-range_with_len (entry_for norms skip_info docs freqs) 0 n i h) ∙ place_is i

  pub entry_of-is : (n i : ℕ) → i < n → skip_entry (entries n) i ≡ entry_for norms skip_info docs freqs i
  entry_of-is n i h = get_or-map-range_with_len (entry_for norms skip_info docs freqs) 0 n i i no_entry h (omega arith)

  last_doc_before-is : (n i : ℕ) → i ≤ n → last_doc_before (entries n) i ≡ last_before docs i
  last_doc_before-is n zero h = refl
  last_doc_before-is n (suc j) h =
      ap (λ (e : SkipEntry). e.last_doc) (entry_of-is n j (omega arith)) ∙ get_or-block_of docs j 127 (omega arith)

  -- the bytes at a block's place
  block_at_place : (after : List ℕ) (n i m : ℕ) → n ≡ i + suc m → drop (block_place (entries n) i) (blocks n ++ after)
      ≡ sorted_bytes (last_before docs i) (block_of docs i) ++ (packed_freqs skip_info (block_of freqs i) ++ (flat_map (block_bytes skip_info docs freqs) (range_with_len (i + 1) m) ++ after))
  block_at_place after n i m e =
      let all = ap (λ (k : ℕ). drop (block_place (entries n) i) (flat_map (block_bytes skip_info docs freqs) (range_with_len 0 k) ++ after)) e in
      let row = row_at (block_bytes skip_info docs freqs) i m (block_place (entries n) i) after (block_place-is n i (omega arith)) in
      all ∙ row ∙ append_assoc (sorted_bytes (last_before docs i) (block_of docs i)) (packed_freqs skip_info (block_of freqs i)) (flat_map (block_bytes skip_info docs freqs) (range_with_len (i + 1) m) ++ after)

  module _ (are : are_documents docs ≡ true) (counts : IsTrue (has_freq skip_info) → AreFreqs skip_info docs freqs) where
    entry_found : (after : List ℕ) (n i : ℕ) → 128 * n ≤ length docs → i < n
        → entry_at skip_info (drop (entry_size skip_info * i) (rows n ++ after)) ≡ entry_for norms skip_info docs freqs i
    entry_found after n i whole within =
        let left = left_of i n within in
        let full = full_block docs i are (omega arith) in
        let low = full.low 127 (omega arith) in
        let thin = narrow (last_before docs i) (block_of docs i) full in
        let place : entry_size skip_info * i ≡ length (rows i) = sym (length-entries norms skip_info docs freqs i) in
        let row = row_at (entry_bytes norms skip_info docs freqs) i left.0 (entry_size skip_info * i) after place in
        let all = ap (λ (k : ℕ). entry_at skip_info (drop (entry_size skip_info * i) (flat_map (entry_bytes norms skip_info docs freqs) (range_with_len 0 k) ++ after))) left.1 in
        all ∙ ap (entry_at skip_info) row
        ∙ entry_read norms skip_info (get_or (block_of docs i) 127 0) (sorted_width (last_before docs i) (block_of docs i)) (block_of docs i) (block_of freqs i)
        (flat_map (entry_bytes norms skip_info docs freqs) (range_with_len (i + 1) left.0) ++ after) (omega arith) thin (small_sum skip_info docs freqs i counts (omega arith))

    entries_found : (after : List ℕ) (n : ℕ) → 128 * n ≤ length docs → entries_at skip_info n (rows n ++ after) ≡ entries n
    entries_found after n whole =
        map-same (entry_for norms skip_info docs freqs) (λ i. entry_at skip_info (drop (entry_size skip_info * i) (rows n ++ after))) 0 n (λ k within. entry_found after n k whole (omega arith))

    all_narrow : (a n : ℕ) → 128 * (a + n) ≤ length docs → list_all (λ (e : SkipEntry). nat_le e.tf_num_bits 32) (map (entry_for norms skip_info docs freqs) (range_with_len a n)) ≡ true
    all_narrow a zero whole = refl
    all_narrow a (suc n) whole =
        rw (le-leb (width_of skip_info (block_of freqs a)) 32 (narrow_width skip_info docs freqs a counts (omega arith))) (all_narrow (a + 1) n (omega arith))

    -- the skip list is read
    pub skip_list_read : (recorded : IndexRecordOption) (body : List ℕ) (n : ℕ) → TellsShape recorded skip_info → 128 * n ≤ length docs → length docs < 2 ^ 32
        → skip_list recorded n (skip_bytes norms skip_info docs freqs n ++ body) ≡ Some (list_for (shape_at recorded skip_info n) n body)
    skip_list_read recorded body zero tells whole few = refl
    skip_list_read recorded body (suc more) tells whole few =
        let size = length-entries norms skip_info docs freqs (suc more) in
        let read = u64_at-vint_u64 (entry_size skip_info * suc more) (rows (suc more) ++ body) (size_fits skip_info (suc more) (omega arith)) in
        let enough = le-leb (entry_size skip_info * suc more) (length (rows (suc more) ++ body)) (omega (arith, length-append (rows (suc more)) body)) in
        let exact = le-leb (entry_size skip_info * suc more) (entry_size skip_info * suc more) (omega arith) in
        let found = entries_found body (suc more) whole in
        let thin = all_narrow 0 (suc more) (omega arith) in
        let after = drop_at (rows (suc more)) body (entry_size skip_info * suc more) size in
        ap (skip_list recorded (suc more)) (append_assoc (vint_u64 (entry_size skip_info * suc more)) (rows (suc more)) body)
        ∙ ap (λ (o : Option (ℕ × List ℕ)). o >>= λ len. sized_list (skip_info_of recorded (suc more) len.0) more len.0 len.1) read
        ∙ ap (λ (shape : IndexRecordOption). sized_list shape more (entry_size skip_info * suc more) (rows (suc more) ++ body)) (tells more)
        ∙ rw (enough, exact) (ap (λ (es : List SkipEntry). listed skip_info es (drop (entry_size skip_info * suc more) (rows (suc more) ++ body))) found ∙ rw (thin, after) refl)

    block_read : (shape : IndexRecordOption) (after : List ℕ) (n i : ℕ) → 128 * n ≤ length docs → i < n
        → block_docs (list_for shape n (blocks n ++ after)) i ≡ Some (block_of docs i)
    block_read shape after n i whole within =
        let left = left_of i n within in
        let full = full_block docs i are (omega arith) in
        let entry = entry_of-is n i within in
        let before = last_doc_before-is n i (omega arith) in
        let place = block_at_place after n i left.0 left.1 in
        let read = reads_sorted_blocks (last_before docs i) (block_of docs i) (packed_freqs skip_info (block_of freqs i) ++ (flat_map (block_bytes skip_info docs freqs) (range_with_len (i + 1) left.0) ++ after))
        (is_block (last_before docs i) (block_of docs i) full) (ascends_after (last_before docs i) (block_of docs i) full)
        in
        let same = eq-eqb (get_or (block_of docs i) 127 0) (get_or (block_of docs i) 127 0) refl in
        rw (entry, before, place, read, same) refl

    rest_read : (shape : IndexRecordOption) (after : List ℕ) (n left : ℕ) → 128 * n + left ≡ length docs
        → rest_docs (list_for shape n (blocks n ++ (sorted_vints (last_before docs n) (drop (128 * n) docs) ++ after))) left ≡ Some (drop (128 * n) docs, after)
    rest_read shape after n left all =
        let body = sorted_vints (last_before docs n) (drop (128 * n) docs) ++ after in
        let many = length-map-range_with_len (entry_for norms skip_info docs freqs) 0 n in
        let before = last_doc_before-is n n (omega arith) in
        let place = drop_at (blocks n) (sorted_vints (last_before docs n) (drop (128 * n) docs) ++ after) (block_place (entries n) n) (sym (block_place-is n n (omega arith))) in
        let count : left ≡ length (drop (128 * n) docs) = omega (arith, length-drop (128 * n) docs) in
        ap (λ (k : ℕ). sorted_vints_at (last_doc_before (entries n) k) left (drop (block_place (entries n) k) (blocks n ++ (sorted_vints (last_before docs n) (drop (128 * n) docs) ++ after)))) many
        ∙ (λ j. sorted_vints_at (before j) (count j) (place j))
        ∙ reads_back (last_before docs n) (drop (128 * n) docs) after (rest_falls docs n are) (rest_fits docs n are)

    pub documents_read : (shape : IndexRecordOption) (after : List ℕ) (n left : ℕ) → 128 * n + left ≡ length docs
        → documents_at (list_for shape n (blocks n ++ (sorted_vints (last_before docs n) (drop (128 * n) docs) ++ after))) left ≡ Some (docs, after)
    documents_read shape after n left all =
        let skip : SkipList = list_for shape n (blocks n ++ (sorted_vints (last_before docs n) (drop (128 * n) docs) ++ after)) in
        let many = length-map-range_with_len (entry_for norms skip_info docs freqs) 0 n in
        let found = ap (each (block_docs skip)) many
        ∙ each-some (block_docs skip) (block_of docs) n (λ k within. block_read shape (sorted_vints (last_before docs n) (drop (128 * n) docs) ++ after) n k (omega arith) within)
        in
        let rest = rest_read shape after n left all in
        let together : concat (map (block_of docs) (range_with_len 0 n)) ++ drop (128 * n) docs ≡ docs =
        ap (λ (xs : List ℕ). xs ++ drop (128 * n) docs) (blocks_are docs n) ∙ take-append-drop (128 * n) docs
        in
        rw (found, rest, together, are) refl

    -- the counts are read, where there are any
    module _ (has : has_freq skip_info ≡ true) where
      block_freqs_read : (after : List ℕ) (n i : ℕ) → 128 * n ≤ length docs → i < n → block_freqs (list_for skip_info n (blocks n ++ after)) i ≡ Some (block_of freqs i)
      block_freqs_read after n i whole within =
          let left = left_of i n within in
          let later = flat_map (block_bytes skip_info docs freqs) (range_with_len (i + 1) left.0) ++ after in
          let entry = entry_of-is n i within in
          let place = block_at_place after n i left.0 left.1 in
          let after_docs = drop_at (sorted_bytes (last_before docs i) (block_of docs i)) (packed_freqs skip_info (block_of freqs i) ++ (flat_map (block_bytes skip_info docs freqs) (range_with_len (i + 1) left.0) ++ after))
          (16 * sorted_width (last_before docs i) (block_of docs i)) (length-packed (sorted_width (last_before docs i) (block_of docs i)) (sorted_entries true (last_before docs i) (block_of docs i)))
          in
          let some : (k : ℕ) → k < 128 → 0 < get_or (block_of freqs i) k 0 =
          λ k h. let many = (counts has).many in rw (get_or-block_of freqs i k h) ((counts has).some (128 * i + k) (omega arith))
          in
          let read = reads_unsorted_blocks.1 (block_of freqs i) (flat_map (block_bytes skip_info docs freqs) (range_with_len (i + 1) left.0) ++ after)
          (freqs_block skip_info docs freqs i (counts has) (omega arith)) some
          in
          let here : packed_freqs skip_info (block_of freqs i) ≡ unsorted_bytes true (block_of freqs i) = rw has refl in
          rw (entry, place, after_docs, width_is skip_info (block_of freqs i) has, here, read, sum_is skip_info (block_of freqs i), bound_stands norms skip_info (block_of freqs i) (freqs_block skip_info docs freqs i (counts has) (omega arith))) refl

      freqs_fit : (n : ℕ) → AllByRecursion (λ v. v < 2 ^ 32) (drop (128 * n) freqs)
      freqs_fit n =
          fit_by (drop (128 * n) freqs)
          (λ k within. rw (get_or-drop (128 * n) freqs k 0) ((counts has).fit (128 * n + k) (omega (arith, length-drop (128 * n) freqs))))

      pub all_freqs_read : (more rest : List ℕ) (n left : ℕ) → 128 * n + left ≡ length docs
          → freqs_at (list_for skip_info n (blocks n ++ more)) left (rest_freqs skip_info (drop (128 * n) freqs) ++ rest) ≡ Some freqs
      all_freqs_read more rest n left all =
          let skip : SkipList = list_for skip_info n (blocks n ++ more) in
          let many = (counts has).many in
          let entries_many = length-map-range_with_len (entry_for norms skip_info docs freqs) 0 n in
          let found = ap (each (block_freqs skip)) entries_many
          ∙ each-some (block_freqs skip) (block_of freqs) n (λ k within. block_freqs_read more n k (omega arith) within)
          in
          let count : left ≡ length (drop (128 * n) freqs) = omega (arith, length-drop (128 * n) freqs) in
          let here : rest_freqs skip_info (drop (128 * n) freqs) ≡ unsorted_vints (drop (128 * n) freqs) = rw has refl in
          let last = (λ j. u32s_at (count j) (here j ++ rest)) ∙ reads_unsorted_back (drop (128 * n) freqs) rest (freqs_fit n) in
          let together : concat (map (block_of freqs) (range_with_len 0 n)) ++ drop (128 * n) freqs ≡ freqs =
          ap (λ (xs : List ℕ). xs ++ drop (128 * n) freqs) (blocks_are freqs n) ∙ take-append-drop (128 * n) freqs
          in
          rw (found, last, together) refl
