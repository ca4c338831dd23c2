-- Laws of the validation of a term's positions.
use Rattle.std.proofs.Common.{◌≡◌, ℕ, ◌+◌, ◌-◌, ◌*◌, ◌^◌, ◌<◌, ◌≤◌, ◌/◌, Bool, true, false, ◌&&◌, List, [], ◌∷◌, ◌++◌, length, take, drop, get_or, nat_lt, nat_le, eqb, Option, Some, None, is_some, if◌then◌else◌, refl, sym, ap, ◌∙◌, arith, length-append, length-take, length-drop}
use Rattle.std.specs.List.{sum, list_all}
use Rattle.std.specs.Option.{IsSome, IfSome}
use Rattle.std.proofs.Math.Bool.{and-true, and-false}
use Rattle.std.proofs.Math.Seq.{take-add}
use Rattle.std.proofs.lemmas.Bool.{and_parts, ltb-true, ltb-false, leb-true, leb-false, lt-ltb, le-ltb, le-leb, lt-leb, eqb-true, eq-eqb, ne_eqb}
use Rattle.std.proofs.lemmas.List.{drop-drop, take_more, take_all, take-append-drop}
use Rattle.std.proofs.lemmas.List.Folds.{list_all-append}
use Rattle.std.proofs.lemmas.List.Sums.{sum_by-cons, sum_by_more}
use Rattle.ii_codes.specs.Sums.{running_sums, fit_u32}
use Rattle.ii_layout.specs.Positions.{positions_of, position_deltas}
use Rattle.ii_layout.specs.TermList.{deltas_if}
use Rattle.ii_layout.specs.SkipReader.{SkipReaderState}
use Rattle.ii_base.specs.Options.{has_positions}
use Rattle.ii_layout.specs.Written.{block_of}
use Rattle.ii_io.specs.StepLemmas.{some-same}
use Rattle.ii_codes.specs.BlockDecoder.{BlockDecoderState}
use Rattle.ii_check.specs.CheckedPostings.{AreReadFreqs, AreLastFreqs, CheckedPostingsState, HasDocuments, IsAtBlock, LoadsFreqs}
use Rattle.ii_check.specs.Positions.{suffice}
use Rattle.ii_layout.proofs.PositionSums.{sum-append}

-- sums of deltas from 0 on fit where the last one does
sums_cases : (before d : ℕ) (ds : List ℕ) (t : Bool) → nat_lt (before + d) (2 ^ 32) ≡ t → (before + d < 2 ^ 32 → fit_u32 (running_sums (before + d) ds) ≡ nat_lt (before + d + sum ds) (2 ^ 32))
    → (t && fit_u32 (running_sums (before + d) ds)) ≡ nat_lt (before + (d + sum ds)) (2 ^ 32)
sums_cases before d ds true test later =
    let whole : before + d + sum ds ≡ before + (d + sum ds) = omega arith in
    later (ltb-true (before + d) (2 ^ 32) test) ∙ ap (λ (n : ℕ). nat_lt n (2 ^ 32)) whole
sums_cases before d ds false test later =
    let high = ltb-false (before + d) (2 ^ 32) test in
    sym (le-ltb (before + (d + sum ds)) (2 ^ 32) (omega arith))

sums_from : (before : ℕ) (ds : List ℕ) → before < 2 ^ 32 → fit_u32 (running_sums before ds) ≡ nat_lt (before + sum ds) (2 ^ 32)
sums_from before [] low = let none : before + 0 ≡ before = omega arith in sym (lt-ltb (before + 0) (2 ^ 32) (omega arith))
sums_from before (d ∷ ds) low =
    sums_cases before d ds (nat_lt (before + d) (2 ^ 32)) refl (λ below. sums_from (before + d) ds below)
    ∙ ap (λ (n : ℕ). nat_lt (before + n) (2 ^ 32)) (sym (sum_by-cons (λ (x : ℕ). x) d ds))

pub sums_fit : (ds : List ℕ) → fit_u32 (running_sums 0 ds) ≡ nat_lt (sum ds) (2 ^ 32)
sums_fit ds =
    let none : 0 + sum ds ≡ sum ds = omega arith in
    sums_from 0 ds (omega arith) ∙ ap (λ (n : ℕ). nat_lt n (2 ^ 32)) none

-- counts one after the other
positions-append : (ns ms deltas : List ℕ) → positions_of (ns ++ ms) deltas ≡ positions_of ns deltas ++ positions_of ms (drop (sum ns) deltas)
positions-append [] ms deltas = refl
positions-append (n ∷ ns) ms deltas =
    let place : n + sum ns ≡ sum (n ∷ ns) = sym (sum_by-cons (λ (x : ℕ). x) n ns) in
    let next = drop-drop (sum ns) n deltas ∙ ap (λ (k : ℕ). drop k deltas) place in
    ap (λ (pss : List (List ℕ)). running_sums 0 (take n deltas) ∷ pss) (positions-append ns ms (drop n deltas) ∙ ap (λ (ds : List ℕ). positions_of ns (drop n deltas) ++ positions_of ms ds) next)

-- as many as two rows of counts say
many_cases : (a b n : ℕ) (t : Bool) → nat_le a n ≡ t → nat_le (a + b) n ≡ (t && nat_le b (n - a))
many_cases a b n true test =
    let within = leb-true a n test in
    by_rest (nat_le b (n - a)) refl
  where
    by_rest : (u : Bool) → nat_le b (n - a) ≡ u → nat_le (a + b) n ≡ u
    by_rest true rest = let low = leb-true a n test in let more = leb-true b (n - a) rest in le-leb (a + b) n (omega arith)
    by_rest false rest = let low = leb-true a n test in let more = leb-false b (n - a) rest in lt-leb (a + b) n (omega arith)
many_cases a b n false test =
    let past = leb-false a n test in
    lt-leb (a + b) n (omega arith)

and_swap : (a b c d : Bool) → ((a && b) && (c && d)) ≡ ((a && c) && (b && d))
and_swap true true c d = refl
and_swap true false true d = refl
and_swap true false false d = refl
and_swap false b c d = refl

pub suffice-append : (ns ms deltas : List ℕ) → suffice (ns ++ ms) deltas ≡ (suffice ns deltas && suffice ms (drop (sum ns) deltas))
suffice-append ns ms deltas =
    let size = length-drop (sum ns) deltas in
    let many = ap (λ (n : ℕ). nat_le n (length deltas)) (sum-append ns ms) ∙ many_cases (sum ns) (sum ms) (length deltas) (nat_le (sum ns) (length deltas)) refl
    ∙ ap (λ (n : ℕ). nat_le (sum ns) (length deltas) && nat_le (sum ms) n) (sym size) in
    let fit = ap (list_all fit_u32) (positions-append ns ms deltas) ∙ list_all-append fit_u32 (positions_of ns deltas) (positions_of ms (drop (sum ns) deltas)) in
    (λ j. many j && fit j) ∙ and_swap (nat_le (sum ns) (length deltas)) (nat_le (sum ms) (length (drop (sum ns) deltas))) (list_all fit_u32 (positions_of ns deltas)) (list_all fit_u32 (positions_of ms (drop (sum ns) deltas)))

-- the positions of one document, a part of its deltas after the other
pub sum_more : (deltas chunk : List ℕ) (start done count : ℕ) → chunk ≡ take count (drop (start + done) deltas) → sum (take done (drop start deltas)) + sum chunk ≡ sum (take (done + count) (drop start deltas))
sum_more deltas chunk start done count e =
    let parted = ap sum (take-add done count (drop start deltas)) ∙ sum-append (take done (drop start deltas)) (take count (drop done (drop start deltas))) in
    let here = ap sum (e ∙ ap (take count) (sym (drop-drop done start deltas))) in
    ap (λ (n : ℕ). sum (take done (drop start deltas)) + n) here ∙ sym parted

-- what was read into the front of a buffer
pub part_read : (deltas now out buffer : List ℕ) (start place done count : ℕ) → now ≡ deltas → length buffer ≡ 128 → count ≤ 128 → place ≡ done → out ≡ take (length (take count buffer)) (drop (start + place) now) → out ≡ take count (drop (start + done) deltas)
part_read deltas now out buffer start place done count now_is size few place_is read =
    let many = length-take count buffer in
    let whole : length (take count buffer) ≡ count = omega arith in
    read ∙ (λ j. take (whole j) (drop (start + place_is j) (now_is j)))

pub part_size : (deltas out buffer : List ℕ) (place count : ℕ) → out ≡ take count (drop place deltas) → place + count ≤ length deltas → length buffer ≡ 128 → count ≤ 128 → length (out ++ drop count buffer) ≡ 128
part_size deltas out buffer place count read there size few =
    let many = ap length read ∙ length-take count (drop place deltas) in
    let left = length-drop place deltas in
    let rest = length-drop count buffer in
    length-append out (drop count buffer) ∙ omega arith

sum_part : (deltas : List ℕ) (m n : ℕ) → m ≤ n → sum (take m deltas) ≤ sum (take n deltas)
sum_part deltas m n h =
    let place : m + (n - m) ≡ n = omega arith in
    let parted = ap (λ (k : ℕ). sum (take k deltas)) (sym place) ∙ ap sum (take-add m (n - m) deltas) ∙ sum-append (take m deltas) (take (n - m) (drop m deltas)) in
    omega arith

pub fits_not : (deltas : List ℕ) (start freq done : ℕ) → done ≤ freq → 2 ^ 32 ≤ sum (take done (drop start deltas)) → false ≡ fit_u32 (running_sums 0 (take freq (drop start deltas)))
fits_not deltas start freq done within high =
    let part = sum_part (drop start deltas) done freq within in
    sym (sums_fit (take freq (drop start deltas)) ∙ le-ltb (sum (take freq (drop start deltas))) (2 ^ 32) (omega arith))

pub fits_all : (deltas : List ℕ) (start freq : ℕ) → sum (take freq (drop start deltas)) < 2 ^ 32 → true ≡ fit_u32 (running_sums 0 (take freq (drop start deltas)))
fits_all deltas start freq low = sym (sums_fit (take freq (drop start deltas)) ∙ lt-ltb (sum (take freq (drop start deltas))) (2 ^ 32) low)

-- those of documents, one after the other
one_suffices : (n : ℕ) (deltas : List ℕ) (t u : Bool) → nat_le n (length deltas) ≡ t → fit_u32 (running_sums 0 (take n deltas)) ≡ u → suffice (n ∷ []) deltas ≡ (t && u)
one_suffices n deltas t true many fit =
    let none : 0 + n ≡ n = omega arith in
    rw (none, many, fit) refl
one_suffices n deltas t false many fit =
    let none : 0 + n ≡ n = omega arith in
    rw (none, many, fit) refl

pub next_suffices : (ns deltas : List ℕ) (i start n : ℕ) (t u : Bool) → i < length ns → n ≡ get_or ns i 0 → suffice (take i ns) (drop start deltas) ≡ true
    → nat_le n (length deltas - (start + sum (take i ns))) ≡ t → (t ≡ true → u ≡ fit_u32 (running_sums 0 (take n (drop (start + sum (take i ns)) deltas)))) → (t ≡ false → u ≡ false)
    → suffice (take (i + 1) ns) (drop start deltas) ≡ u
next_suffices ns deltas i start n true u within n_is so_far many fit unfit =
    let parted = ap (λ (ms : List ℕ). suffice ms (drop start deltas)) (take_more ns i 0 within) ∙ suffice-append (take i ns) (get_or ns i 0 ∷ []) (drop start deltas) in
    let place = drop-drop (sum (take i ns)) start deltas in
    let size = length-drop (start + sum (take i ns)) deltas in
    let one = one_suffices n (drop (start + sum (take i ns)) deltas) true u (ap (nat_le n) size ∙ many) (sym (fit refl)) in
    parted ∙ rw (so_far, place, ← n_is) one
next_suffices ns deltas i start n false u within n_is so_far many fit unfit =
    let parted = ap (λ (ms : List ℕ). suffice ms (drop start deltas)) (take_more ns i 0 within) ∙ suffice-append (take i ns) (get_or ns i 0 ∷ []) (drop start deltas) in
    let place = drop-drop (sum (take i ns)) start deltas in
    let size = length-drop (start + sum (take i ns)) deltas in
    let one = one_suffices n (drop (start + sum (take i ns)) deltas) false (fit_u32 (running_sums 0 (take n (drop (start + sum (take i ns)) deltas)))) (ap (nat_le n) size ∙ many) refl in
    parted ∙ rw (so_far, place, ← n_is) (one ∙ sym (unfit refl))

pub none_suffices : (ns deltas : List ℕ) (i : ℕ) → suffice (take i ns) deltas ≡ false → suffice ns deltas ≡ false
none_suffices ns deltas i h =
    ap (λ (ms : List ℕ). suffice ms deltas) (sym (take-append-drop i ns)) ∙ suffice-append (take i ns) (drop i ns) deltas ∙ ap (λ (t : Bool). t && suffice (drop i ns) (drop (sum (take i ns)) deltas)) h

-- What is known of the positions of the blocks before a block.
pub record SufficesTo (freqs : Option (List ℕ)) (block end : ℕ) (deltas : List ℕ) : Type 0 where
  pub counts : List ℕ
  pub are : freqs ≡ Some counts
  pub end_is : end ≡ sum (take (128 * block) counts)
  pub enough : suffice (take (128 * block) counts) deltas ≡ true

suffices_from : (freqs : Option (List ℕ)) (deltas : List ℕ) → IsSome freqs → SufficesTo freqs 0 0 deltas
suffices_from None deltas some = absurd (cc)
suffices_from (Some counts) deltas some = record { counts = counts; are = refl; end_is = refl; enough = rw (le-leb 0 (length deltas) (omega arith)) refl }

pub suffices_first : (freqs : Option (List ℕ)) (deltas : List ℕ) (block : ℕ) → IsSome freqs → block ≡ 0 → SufficesTo freqs block 0 deltas
suffices_first freqs deltas block some first = rw first (suffices_from freqs deltas some)

block_parted : (counts : List ℕ) (block : ℕ) → take (128 * (block + 1)) counts ≡ take (128 * block) counts ++ block_of counts block
block_parted counts block =
    let place : 128 * (block + 1) ≡ 128 * block + 128 = omega arith in
    ap (λ (k : ℕ). take k counts) place ∙ take-add (128 * block) 128 counts

pub suffices_block : (freqs : Option (List ℕ)) (block end : ℕ) (deltas : List ℕ) (s : SufficesTo freqs block end deltas) → suffice (take (128 * (block + 1)) s.counts) deltas ≡ suffice (block_of s.counts block) (drop end deltas)
suffices_block freqs block end deltas s =
    ap (λ (ms : List ℕ). suffice ms deltas) (block_parted s.counts block) ∙ suffice-append (take (128 * block) s.counts) (block_of s.counts block) deltas
    ∙ rw (s.enough, ← s.end_is) refl

pub suffices_next : (freqs : Option (List ℕ)) (block end : ℕ) (deltas : List ℕ) (s : SufficesTo freqs block end deltas) → suffice (block_of s.counts block) (drop end deltas) ≡ true → SufficesTo freqs (block + 1) (end + sum (block_of s.counts block)) deltas
suffices_next freqs block end deltas s h =
    record {
      counts = s.counts;
      are = s.are;
      end_is = sym (ap sum (block_parted s.counts block) ∙ sum-append (take (128 * block) s.counts) (block_of s.counts block) ∙ ap (λ (n : ℕ). n + sum (block_of s.counts block)) (sym s.end_is));
      enough = suffices_block freqs block end deltas s ∙ h;
    }

eqb_swap : (a b : ℕ) (t : Bool) → eqb b a ≡ t → eqb a b ≡ eqb b a
eqb_swap a b true e = let same = eqb-true b a e in eq-eqb a b (sym same) ∙ sym e
eqb_swap a b false e = ne_eqb a b (λ same. absurd (let other = eq-eqb b a (sym same) in cc)) ∙ sym e

-- the complete test, by its parts
abbrev pub are_all : List ℕ → List ℕ → Bool
are_all counts deltas = eqb (length deltas) (sum counts) && list_all fit_u32 (positions_of counts deltas)

all_cases : (counts deltas : List ℕ) (t u : Bool) → nat_le (sum counts) (length deltas) ≡ t → list_all fit_u32 (positions_of counts deltas) ≡ u → (t && u) ≡ false → are_all counts deltas ≡ false
all_cases counts deltas true true many fit h = absurd (cc)
all_cases counts deltas true false many fit h = rw fit (and-false (eqb (length deltas) (sum counts)))
all_cases counts deltas false u many fit h =
    let more = leb-false (sum counts) (length deltas) many in
    rw (ne_eqb (length deltas) (sum counts) (λ e. absurd (omega arith))) refl

pub none_are : (counts deltas : List ℕ) (i : ℕ) → suffice (take i counts) deltas ≡ false → are_all counts deltas ≡ false
none_are counts deltas i h = all_cases counts deltas (nat_le (sum counts) (length deltas)) (list_all fit_u32 (positions_of counts deltas)) refl refl (none_suffices counts deltas i h)

pub all_are : (counts deltas : List ℕ) (i end : ℕ) → length counts ≤ i → suffice (take i counts) deltas ≡ true → end ≡ sum (take i counts) → eqb end (length deltas) ≡ are_all counts deltas
all_are counts deltas i end within h end_is =
    let whole = take_all i counts within in
    let total = end_is ∙ ap sum whole in
    let fit = (and_parts (nat_le (sum counts) (length deltas)) (list_all fit_u32 (positions_of counts deltas)) (ap (λ (ms : List ℕ). suffice ms deltas) (sym whole) ∙ h)).1 in
    ap (λ (n : ℕ). eqb n (length deltas)) total ∙ eqb_swap (sum counts) (length deltas) (eqb (length deltas) (sum counts)) refl ∙ sym (rw fit (and-true (eqb (length deltas) (sum counts))))

-- counts of 32 bits have a sum of 64
pub sum_low : (counts : List ℕ) → fit_u32 counts ≡ true → sum counts ≤ 4294967295 * length counts
sum_low [] low = omega arith
sum_low (n ∷ ns) low =
    let parts = and_parts (nat_lt n (2 ^ 32)) (fit_u32 ns) low in
    let first = ltb-true n (2 ^ 32) parts.0 in
    let later = sum_low ns parts.1 in
    let whole = sum_by-cons (λ (x : ℕ). x) n ns in
    omega arith

pub sum_next : (ns : List ℕ) (i : ℕ) → i < length ns → sum (take (i + 1) ns) ≡ sum (take i ns) + get_or ns i 0
sum_next ns i h = sum_by_more (λ (x : ℕ). x) ns i 0 h

-- the counts that a decoder holds
row_cases : (freqs : Option (List ℕ)) (counts row : List ℕ) (block : ℕ) (old new : BlockDecoderState) → freqs ≡ Some counts → LoadsFreqs freqs block old new → row ≡ take new.output_len new.output → row ≡ block_of counts block
row_cases None counts row block old new e loads row_is = absurd (cc)
row_cases (Some fs) counts row block old new e loads row_is = row_is ∙ loads.holds.held ∙ ap (λ (ns : List ℕ). block_of ns block) (some-same e)

pub row_is : (freqs : Option (List ℕ)) (block end : ℕ) (deltas row : List ℕ) (old new : BlockDecoderState) (s : SufficesTo freqs block end deltas) → LoadsFreqs freqs block old new → row ≡ take new.output_len new.output → row ≡ block_of s.counts block
row_is freqs block end deltas row old new s loads e = row_cases freqs s.counts row block old new s.are loads e

pub end_low : (freqs : Option (List ℕ)) (n block end : ℕ) (deltas row : List ℕ) (s : SufficesTo freqs block end deltas) → row ≡ block_of s.counts block → ((fs : List ℕ) → freqs ≡ Some fs → AreReadFreqs n fs) → n < 2 ^ 32 → end + sum row < 2 ^ 64
end_low freqs n block end deltas row s e all few =
    let are = all s.counts s.are in
    let low = sum_low s.counts are.low in
    let many = are.many in
    let whole = ap sum (block_parted s.counts block) ∙ sum-append (take (128 * block) s.counts) (block_of s.counts block) in
    let part = sum_part s.counts (128 * (block + 1)) (128 * (block + 1) + length s.counts) (omega arith) in
    let all_of = ap sum (take_all (128 * (block + 1) + length s.counts) s.counts (omega arith)) in
    let end_is = s.end_is in
    let row_sum = ap sum e in
    omega arith

-- what the end of the positions of a block says
pub no_end : (t : Bool) (n : ℕ) → None ≡ (if t then Some n else None) → t ≡ false
no_end true n e = absurd (cc)
no_end false n e = refl

pub an_end : (t : Bool) (n next : ℕ) → Some next ≡ (if t then Some n else None) → (t ≡ true) × (next ≡ n)
an_end true n next e = (refl, some-same e)
an_end false n next e = absurd (cc)

pub none_there : (freqs : Option (List ℕ)) (block end : ℕ) (deltas row : List ℕ) (s : SufficesTo freqs block end deltas) → row ≡ block_of s.counts block → suffice row (drop end deltas) ≡ false → false ≡ are_all s.counts deltas
none_there freqs block end deltas row s e h =
    sym (none_are s.counts deltas (128 * (block + 1)) (suffices_block freqs block end deltas s ∙ ap (λ (ns : List ℕ). suffice ns (drop end deltas)) (sym e) ∙ h))

pub goes_on : (freqs : Option (List ℕ)) (block end next block' : ℕ) (deltas row : List ℕ) (s : SufficesTo freqs block end deltas) → row ≡ block_of s.counts block → suffice row (drop end deltas) ≡ true → next ≡ end + sum row → block' ≡ block + 1
    → SufficesTo freqs block' next deltas
goes_on freqs block end next block' deltas row s e h next_is block_is =
    let more = suffices_next freqs block end deltas s (ap (λ (ns : List ℕ). suffice ns (drop end deltas)) (sym e) ∙ h) in
    rw (block_is, next_is, e) more

-- where the sum of all deltas has 32 bits, each position has
pub small_fits : (counts deltas : List ℕ) → sum deltas < 2 ^ 32 → list_all fit_u32 (positions_of counts deltas) ≡ true
small_fits [] deltas small = refl
small_fits (n ∷ ns) deltas small =
    let parted = ap sum (sym (take-append-drop n deltas)) ∙ sum-append (take n deltas) (drop n deltas) in
    let first = sums_fit (take n deltas) ∙ lt-ltb (sum (take n deltas)) (2 ^ 32) (omega arith) in
    rw first (small_fits ns (drop n deltas) (omega arith))

-- What bytes give whose deltas are as many as the counts say, or not.
pub small_given : (freqs : Option (List ℕ)) (bytes deltas : List ℕ) (n : ℕ) → is_some freqs ≡ true → position_deltas bytes ≡ Some deltas → IfSome freqs (λ fs. n ≡ sum fs) → length deltas ≡ n → sum deltas < 2 ^ 32 → deltas_if true freqs (Some bytes) ≡ Some (Some deltas)
small_given None bytes deltas n some read count many small = absurd (cc)
small_given (Some fs) bytes deltas n some read count many small =
    let same = eq-eqb (length deltas) (sum fs) (many ∙ count) in
    let fit = small_fits fs deltas small in
    rw (read, same, fit) refl

-- how many positions the frequencies say, by the skip entries and by the frequencies of the last block
pub counted_all : (p : CheckedPostingsState) (skip : SkipReaderState) (fs row : List ℕ) (offset n : ℕ) → HasDocuments p → IsAtBlock p skip → skip.block ≡ p.doc_freq / 128 → has_positions p.recorded ≡ true → p.postings.freqs ≡ Some fs → row ≡ block_of fs (p.doc_freq / 128)
    → offset ≡ skip.position_offset → n ≡ sum row → offset + n ≡ sum fs
counted_all p skip fs row offset n has at end recorded e row_is offset_is n_is =
    let many = (has.freqs fs e).many in
    let told = ap (λ (r : SkipReaderState). r.position_offset) at.reader in
    let before = has.sums fs e recorded skip.block (omega arith) in
    let last = n_is ∙ ap sum (row_is ∙ ap (block_of fs) (sym end)) in
    let whole = ap sum (block_parted fs skip.block) ∙ sum-append (take (128 * skip.block) fs) (block_of fs skip.block) in
    let all = ap sum (take_all (128 * (skip.block + 1)) fs (omega arith)) in
    omega arith

-- the counts of the last block
pub last_row : (o : Option (List ℕ)) (block : ℕ) (fs row : List ℕ) → o ≡ Some fs → AreLastFreqs o block row → row ≡ block_of fs block
last_row None block fs row e last = absurd (cc)
last_row (Some freqs) block fs row e last = last.0 ∙ ap (λ (ns : List ℕ). block_of ns block) (some-same e)

pub last_few : (o : Option (List ℕ)) (block : ℕ) (row : List ℕ) → AreLastFreqs o block row → length row < 128
last_few None block row last = last
last_few (Some freqs) block row last = last.1

pub last_loaded : (o : Option (List ℕ)) (n block : ℕ) (row : List ℕ) (old new : BlockDecoderState) → is_some o ≡ true → ((fs : List ℕ) → o ≡ Some fs → AreReadFreqs n fs) → block ≡ n / 128 → LoadsFreqs o block old new → row ≡ take new.output_len new.output → AreLastFreqs o (n / 128) row
last_loaded None n block row old new some are end loads row_is = absurd (cc)
last_loaded (Some fs) n block row old new some are end loads row_is =
    let many = (are fs refl).many in
    let here = row_is ∙ loads.holds.held ∙ ap (block_of fs) end in
    let size = ap length here ∙ length-take 128 (drop (128 * (n / 128)) fs) in
    let left = length-drop (128 * (n / 128)) fs in
    (here, omega arith)

pub where_some : (o : Option (List ℕ)) (n : ℕ) → ((fs : List ℕ) → o ≡ Some fs → n ≡ sum fs) → IfSome o (λ fs. n ≡ sum fs)
where_some None n h = tt
where_some (Some fs) n h = h fs refl

pub some_counts : (o : Option (List ℕ)) → is_some o ≡ true → (fs : List ℕ) × (o ≡ Some fs)
some_counts None e = absurd (cc)
some_counts (Some fs) e = (fs, refl)
