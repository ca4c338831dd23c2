-- Laws of a cursor over documents and their term frequencies.
use Rattle.std.proofs.Common.{◌≡◌, ℕ, zero, suc, ◌+◌, ◌*◌, ◌/◌, ◌^◌, ◌<◌, ◌≤◌, ◌⊎◌, inl, inr, Bool, true, false, ◌&&◌, List, [], ◌∷◌, length, take, drop, map, get_or, min, nat_le, nat_lt, Option, Some, None, is_some, not, refl, sym, ap, ◌∙◌, arith, length-take, length-drop}
use Rattle.std.specs.List.{All, AllByRecursion, zip, list_all}
use Rattle.std.specs.List.Sorted.{IsNonDecreasing}
use Rattle.std.proofs.lemmas.Bool.{ltb-true, ltb-false, leb-true, and_parts}
use Rattle.std.proofs.lemmas.List.{get_or-take, get_or-drop, get_or_past, drop_all, length-map}
use Rattle.std.proofs.lemmas.List.Elements.{All-map, All-head, All-tail, All-cons}
use Rattle.std.proofs.lemmas.List.Sorted.{IsNonDecreasingBy-from_all_adjacent, IsNonDecreasingBy-short}
use Rattle.ii_base.specs.declared.doc_id.TheConstants.{TERMINATED}
use Rattle.ii_base.specs.Entries.{Entry, document, counted, ascend_from, are_documents}
use Rattle.ii_docset.specs.Cursor.{doc_at, FitsU32, IsAscending, IsInOrder, IsSound, term_freq_at}
use Rattle.ii_docset.proofs.CursorLemmas.{documents_sound, IsSound_drop, advanced}
use Rattle.ii_codes.specs.Sums.{fit_u32, running_sums}
use Rattle.ii_layout.specs.Positions.{positions_of}
use Rattle.ii_layout.specs.Postings.{entries_of}
use Rattle.ii_layout.specs.Written.{block_of}
use Rattle.ii_reader.specs.BlockSegmentPostings.{AreEntries, doc_in_block, freq_in_block}
use Rattle.ii_layout.specs.TermList.{located, positions_if, list_of}
use Rattle.ii_reader.specs.SegmentPostings.{AreGivenDeltas}

-- the documents of entries, and how many these are
docs_of : (docs freqs : List ℕ) → length freqs ≡ length docs → map (λ (e : Entry). e.doc) (entries_of docs (Some freqs)) ≡ docs
docs_of [] freqs many = refl
docs_of (d ∷ ds) [] many = absurd (omega arith)
docs_of (d ∷ ds) (f ∷ fs) many = ap (λ (later : List ℕ). d ∷ later) (docs_of ds fs (omega arith))

documents_of : (docs : List ℕ) → map (λ (e : Entry). e.doc) (map document docs) ≡ docs
documents_of [] = refl
documents_of (d ∷ ds) = ap (λ (later : List ℕ). d ∷ later) (documents_of ds)

pub docs_are : (n : ℕ) (docs : List ℕ) (freqs : Option (List ℕ)) → AreEntries n docs freqs → map (λ (e : Entry). e.doc) (entries_of docs freqs) ≡ docs
docs_are n docs None a = documents_of docs
docs_are n docs (Some freqs) a =
    let count = (a.freqs_are freqs refl).many in
    let many = a.many in
    docs_of docs freqs (omega arith)

-- and so it is with their positions
located_docs : (pss : List (List ℕ)) (es : List Entry) → map (λ (e : Entry). e.doc) (located pss es) ≡ map (λ (e : Entry). e.doc) es
located_docs [] es = refl
located_docs (ps ∷ pss) [] = refl
located_docs (ps ∷ pss) (e ∷ es) = ap (λ (later : List ℕ). e.doc ∷ later) (located_docs pss es)

pub list_docs : (n : ℕ) (docs : List ℕ) (freqs deltas : Option (List ℕ)) → AreEntries n docs freqs → map (λ (e : Entry). e.doc) (list_of docs freqs deltas) ≡ docs
list_docs n docs freqs deltas a = located_docs (positions_if freqs deltas) (entries_of docs freqs) ∙ docs_are n docs freqs a

pub length-list : (docs : List ℕ) (es : List Entry) → map (λ (e : Entry). e.doc) es ≡ docs → length es ≡ length docs
length-list docs es are = sym (length-map es (λ (e : Entry). e.doc)) ∙ ap length are

-- what is left from a place of a block on
pub stands_at : (n block cur : ℕ) (docs : List ℕ) (freqs deltas : Option (List ℕ)) → AreEntries n docs freqs → cur < 128
    → ((0 < length (drop (128 * block + cur) (list_of docs freqs deltas)) → 128 * block + length (drop (128 * block + cur) (list_of docs freqs deltas)) ≤ length docs)
    × (length docs < 128 * block + 128 + length (drop (128 * block + cur) (list_of docs freqs deltas))))
stands_at n block cur docs freqs deltas a below =
    let whole = length-list docs (list_of docs freqs deltas) (list_docs n docs freqs deltas a) in
    let left = length-drop (128 * block + cur) (list_of docs freqs deltas) in
    ((λ some. omega arith), omega arith)

-- at its first block all of a list is left
pub length_opened : (n block : ℕ) (docs : List ℕ) (freqs deltas : Option (List ℕ)) → AreEntries n docs freqs → block ≡ 0 → length (drop (128 * block + 0) (list_of docs freqs deltas)) ≡ n
length_opened n block docs freqs deltas a first =
    let whole = length-list docs (list_of docs freqs deltas) (list_docs n docs freqs deltas a) in
    let left = length-drop (128 * block + 0) (list_of docs freqs deltas) in
    let many = a.many in
    omega arith

-- the current document of what is left from a place on
pub doc_at_drop : (es : List Entry) (i : ℕ) → get_or (map (λ (e : Entry). e.doc) es) i TERMINATED ≡ doc_at (drop i es)
doc_at_drop [] zero = refl
doc_at_drop [] (suc i) = refl
doc_at_drop (e ∷ es) zero = refl
doc_at_drop (e ∷ es) (suc i) = doc_at_drop es i

pub doc_at_place : (docs : List ℕ) (es : List Entry) (block cur : ℕ) → map (λ (e : Entry). e.doc) es ≡ docs → cur < 128 → doc_in_block docs block cur ≡ doc_at (drop (128 * block + cur) es)
doc_at_place docs es block cur are within =
    get_or-take 128 (drop (128 * block) docs) cur TERMINATED within ∙ get_or-drop (128 * block) docs cur TERMINATED
    ∙ ap (λ (ds : List ℕ). get_or ds (128 * block + cur) TERMINATED) (sym are) ∙ doc_at_drop es (128 * block + cur)

-- its count
one_at : (docs : List ℕ) (i : ℕ) → 1 ≡ term_freq_at false (drop i (map document docs))
one_at [] zero = refl
one_at [] (suc i) = refl
one_at (d ∷ ds) zero = refl
one_at (d ∷ ds) (suc i) = one_at ds i

pub freq_at : (docs freqs : List ℕ) (pss : List (List ℕ)) (i : ℕ) → length freqs ≡ length docs → i < length docs → get_or freqs i 0 ≡ term_freq_at false (drop i (located pss (entries_of docs (Some freqs))))
freq_at [] freqs pss i many within = absurd (omega arith)
freq_at (d ∷ ds) [] pss i many within = absurd (omega arith)
freq_at (d ∷ ds) (f ∷ fs) [] zero many within = refl
freq_at (d ∷ ds) (f ∷ fs) (ps ∷ pss) zero many within = refl
freq_at (d ∷ ds) (f ∷ fs) [] (suc i) many within = freq_at ds fs [] i (omega arith) (omega arith)
freq_at (d ∷ ds) (f ∷ fs) (ps ∷ pss) (suc i) many within = freq_at ds fs pss i (omega arith) (omega arith)

inside_cases : (docs : List ℕ) (block cur : ℕ) (t : Bool) → nat_lt cur (length (block_of docs block)) ≡ t → doc_in_block docs block cur < TERMINATED → cur < length (block_of docs block)
inside_cases docs block cur true test below = ltb-true cur (length (block_of docs block)) test
inside_cases docs block cur false test below =
    let past = get_or_past (block_of docs block) cur TERMINATED (ltb-false cur (length (block_of docs block)) test) in
    absurd (omega arith)

-- a current document lies in its block
pub inside : (docs : List ℕ) (es : List Entry) (block cur : ℕ) → map (λ (e : Entry). e.doc) es ≡ docs → cur < 128 → doc_at (drop (128 * block + cur) es) < TERMINATED → cur < length (block_of docs block)
inside docs es block cur are within below =
    let same = doc_at_place docs es block cur are within in
    inside_cases docs block cur (nat_lt cur (length (block_of docs block))) refl (omega arith)

-- where counts are read there is a current document
pub current_where : {P : Type 0} (t : Bool) → (not t ≡ true) ⊎ P → t ≡ true → P
current_where true (inl none) e = absurd (cc)
current_where true (inr p) e = p
current_where false (inl none) e = absurd (cc)
current_where false (inr p) e = p

pub freq_at_place : (n : ℕ) (docs : List ℕ) (freqs deltas : Option (List ℕ)) (block cur : ℕ) → AreEntries n docs freqs → cur < 128 → (is_some freqs ≡ true → doc_at (drop (128 * block + cur) (list_of docs freqs deltas)) < TERMINATED)
    → freq_in_block freqs block cur ≡ term_freq_at false (drop (128 * block + cur) (list_of docs freqs deltas))
freq_at_place n docs None deltas block cur a within current = one_at docs (128 * block + cur)
freq_at_place n docs (Some freqs) deltas block cur a within current =
    let count = (a.freqs_are freqs refl).many in
    let many = a.many in
    let low = inside docs (list_of docs (Some freqs) deltas) block cur (list_docs n docs (Some freqs) deltas a) within (current refl) in
    let size = length-take 128 (drop (128 * block) docs) in
    let left = length-drop (128 * block) docs in
    get_or-take 128 (drop (128 * block) freqs) cur 0 within ∙ get_or-drop (128 * block) freqs cur 0 ∙ freq_at docs freqs (positions_if (Some freqs) deltas) (128 * block + cur) (omega arith) (omega arith)

-- where counts aren't read it is 1
pub freq_by : (freqs : Option (List ℕ)) (block cur freq : ℕ) (es : List Entry) → freq ≡ freq_in_block freqs block cur → freq ≡ term_freq_at false es → freq ≡ term_freq_at (not (is_some freqs)) es
freq_by None block cur freq es e is = e
freq_by (Some fs) block cur freq es e is = is

-- what is left is sound
ascending_from : (least : ℕ) (es : List Entry) → ascend_from least (map (λ (e : Entry). e.doc) es) ≡ true → IsAscending es × (least ≤ TERMINATED → least ≤ doc_at es)
ascending_from least [] h = (tt, λ up. up)
ascending_from least (e ∷ es) h =
    let parts = and_parts (nat_le least e.doc && nat_lt e.doc TERMINATED) (ascend_from (e.doc + 1) (map (λ (e : Entry). e.doc) es)) h in
    let both = and_parts (nat_le least e.doc) (nat_lt e.doc TERMINATED) parts.0 in
    let low = leb-true least e.doc both.0 in
    let high = ltb-true e.doc TERMINATED both.1 in
    let later = ascending_from (e.doc + 1) es parts.1 in
    let next = later.1 (omega arith) in
    ((omega arith, later.0), λ up. low)

second_low : (docs freqs : List ℕ) (k : ℕ) (d : ℕ × ℕ) → fit_u32 freqs ≡ true → k < length (zip docs freqs) → (get_or (zip docs freqs) k d).1 < 2 ^ 32
second_low [] freqs k d low within = absurd (omega arith)
second_low (x ∷ xs) [] k d low within = absurd (omega arith)
second_low (x ∷ xs) (f ∷ fs) zero d low within = ltb-true f (2 ^ 32) (and_parts (nat_lt f (2 ^ 32)) (fit_u32 fs) low).0
second_low (x ∷ xs) (f ∷ fs) (suc k) d low within = second_low xs fs k d (and_parts (nat_lt f (2 ^ 32)) (fit_u32 fs) low).1 (omega arith)

counts_fit : (docs freqs : List ℕ) → fit_u32 freqs ≡ true → All FitsU32 (entries_of docs (Some freqs))
counts_fit docs freqs low = All-map FitsU32 (λ (e : ℕ × ℕ). counted e.0 e.1) (zip docs freqs) (λ k d within. (second_low docs freqs k d low within, λ j p none. absurd (omega arith)))

counts_in_order : (docs freqs : List ℕ) → All IsInOrder (entries_of docs (Some freqs))
counts_in_order docs freqs = All-map IsInOrder (λ (e : ℕ × ℕ). counted e.0 e.1) (zip docs freqs) (λ k d within. IsNonDecreasingBy-short (λ p. p) [] (omega arith))

entries_sound : (n : ℕ) (docs : List ℕ) (freqs : Option (List ℕ)) → AreEntries n docs freqs → IsSound (entries_of docs freqs)
entries_sound n docs None a = documents_sound docs a.ascending
entries_sound n docs (Some freqs) a =
    let up = ap are_documents (docs_are n docs (Some freqs) a) ∙ a.ascending in
    record { ascending = (ascending_from 0 (entries_of docs (Some freqs)) up).0; fits = counts_fit docs freqs (a.freqs_are freqs refl).low; in_order = counts_in_order docs freqs }

-- and so is the list with positions of 32 bits
low_all : (ps : List ℕ) → fit_u32 ps ≡ true → All (λ (p : ℕ). p < 2 ^ 32) ps
low_all ps low k d within = ltb-true (get_or ps k d) (2 ^ 32) (at_all ps k d low within)
  where
    at_all : (ps : List ℕ) (k d : ℕ) → fit_u32 ps ≡ true → k < length ps → nat_lt (get_or ps k d) (2 ^ 32) ≡ true
    at_all [] k d low within = absurd (omega arith)
    at_all (p ∷ ps) zero d low within = (and_parts (nat_lt p (2 ^ 32)) (fit_u32 ps) low).0
    at_all (p ∷ ps) (suc k) d low within = at_all ps k d (and_parts (nat_lt p (2 ^ 32)) (fit_u32 ps) low).1 (omega arith)

located_fits : (pss : List (List ℕ)) (es : List Entry) → list_all fit_u32 pss ≡ true → All FitsU32 es → All FitsU32 (located pss es)
located_fits [] es low fits = fits
located_fits (ps ∷ pss) [] low fits = fits
located_fits (ps ∷ pss) (e ∷ es) low fits =
    let parts = and_parts (fit_u32 ps) (list_all fit_u32 pss) low in
    let first = All-head FitsU32 e es fits in
    let later = located_fits pss es parts.1 (All-tail FitsU32 e es fits) in
    All-cons FitsU32 _ (located pss es) (first.0, low_all ps parts.0) later

positions_fit : (freqs deltas : Option (List ℕ)) → AreGivenDeltas freqs deltas → list_all fit_u32 (positions_if freqs deltas) ≡ true
positions_fit None deltas a = refl
positions_fit (Some fs) None a = refl
positions_fit (Some fs) (Some ds) a = a.fit

-- sums of deltas don't decrease
sums_in_order : (before : ℕ) (ds : List ℕ) → IsNonDecreasing (running_sums before ds)
sums_in_order before ds = IsNonDecreasingBy-from_all_adjacent (λ p. p) (running_sums before ds) (adjacent before ds)
  where
    adjacent : (before : ℕ) (ds : List ℕ) (k d : ℕ) → k + 1 < length (running_sums before ds) → get_or (running_sums before ds) k d ≤ get_or (running_sums before ds) (k + 1) d
    adjacent before [] k d within = absurd (omega arith)
    adjacent before (x ∷ []) k d within = absurd (omega arith)
    adjacent before (x ∷ y ∷ ds) zero d within = omega arith
    adjacent before (x ∷ y ∷ ds) (suc k) d within =
        let more : suc k + 1 ≡ suc (k + 1) = omega arith in
        let later = adjacent (before + x) (y ∷ ds) k d (omega (arith, within)) in
        rw more later

located_in_order : (pss : List (List ℕ)) (es : List Entry) → AllByRecursion IsNonDecreasing pss → All IsInOrder es → All IsInOrder (located pss es)
located_in_order [] es rise all = all
located_in_order (ps ∷ pss) [] rise all = all
located_in_order (ps ∷ pss) (e ∷ es) rise all = All-cons IsInOrder _ (located pss es) rise.0 (located_in_order pss es rise.1 (All-tail IsInOrder e es all))

positions_in_order : (freqs deltas : Option (List ℕ)) → AllByRecursion IsNonDecreasing (positions_if freqs deltas)
positions_in_order None deltas = tt
positions_in_order (Some fs) None = tt
positions_in_order (Some fs) (Some ds) = each fs ds
  where
    each : (fs ds : List ℕ) → AllByRecursion IsNonDecreasing (positions_of fs ds)
    each [] ds = tt
    each (n ∷ ns) ds = (sums_in_order 0 (take n ds), each ns (drop n ds))

pub rest_sound : (n : ℕ) (docs : List ℕ) (freqs deltas : Option (List ℕ)) (i : ℕ) → AreEntries n docs freqs → AreGivenDeltas freqs deltas → IsSound (drop i (list_of docs freqs deltas))
rest_sound n docs freqs deltas i a d =
    let up = ap are_documents (list_docs n docs freqs deltas a) ∙ a.ascending in
    let entries = entries_sound n docs freqs a in
    let fits = located_fits (positions_if freqs deltas) (entries_of docs freqs) (positions_fit freqs deltas d) entries.fits in
    let in_order = located_in_order (positions_if freqs deltas) (entries_of docs freqs) (positions_in_order freqs deltas) entries.in_order in
    IsSound_drop i (list_of docs freqs deltas) (record { ascending = (ascending_from 0 (list_of docs freqs deltas) up).0; fits = fits; in_order = in_order })

-- one place on in the block, and on to the next block
pub next_place : (es : List Entry) (block cur : ℕ) → drop (128 * block + (cur + 1)) es ≡ drop 1 (drop (128 * block + cur) es)
next_place es block cur =
    let place : 128 * block + (cur + 1) ≡ 128 * block + cur + 1 = omega arith in
    ap (λ (n : ℕ). drop n es) place ∙ advanced es (128 * block + cur)

block_cases : (es : List Entry) (n block next : ℕ) (t : Bool) → length es ≡ n → next ≡ min (block + 1) (n / 128 + 1) → block ≤ n / 128 + 1 → nat_lt block (n / 128 + 1) ≡ t → drop (128 * next + 0) es ≡ drop 1 (drop (128 * block + 127) es)
block_cases es n block next true many e within test =
    let below = ltb-true block (n / 128 + 1) test in
    let place : 128 * next + 0 ≡ 128 * block + 127 + 1 = omega arith in
    ap (λ (k : ℕ). drop k es) place ∙ advanced es (128 * block + 127)
block_cases es n block next false many e within test =
    let past = ltb-false block (n / 128 + 1) test in
    let none = drop_all (128 * next + 0) es (omega arith) in
    let left = drop_all (128 * block + 127) es (omega arith) in
    none ∙ ap (λ (es : List Entry). drop 1 es) (sym left)

pub next_block : (es : List Entry) (n block next : ℕ) → length es ≡ n → next ≡ min (block + 1) (n / 128 + 1) → block ≤ n / 128 + 1 → drop (128 * next + 0) es ≡ drop 1 (drop (128 * block + 127) es)
next_block es n block next many e within = block_cases es n block next (nat_lt block (n / 128 + 1)) many e within refl
