-- Laws of the positions of a cursor.
use Rattle.std.proofs.Common.{◌≡◌, ℕ, zero, suc, ◌+◌, ◌*◌, ◌/◌, ◌^◌, ◌<◌, ◌≤◌, Bool, true, false, List, [], ◌∷◌, length, take, drop, map, get_or, eqb, Option, Some, None, Ok, subst, refl, sym, ap, ◌∙◌, arith, length-take, length-drop}
use Rattle.std.specs.List.{All, sum, list_all}
use Rattle.std.specs.Option.{IsSome, option_map}
use Rattle.std.proofs.lemmas.Bool.{lt-ltb, eqb-true}
use Rattle.std.proofs.lemmas.List.{drop-drop, get_or-take, length-map}
use Rattle.std.proofs.lemmas.List.Elements.{All-head, All-tail}
use Rattle.std.proofs.lemmas.List.Sums.{sum_by-cons, sum_by_more, sum_by-take-le}
use Rattle.ii_io.specs.StepLemmas.{needs-some, step-some, some-same}
use Rattle.ii_base.specs.declared.schema.index_record_option.IndexRecordOption.{IndexRecordOption}
use Rattle.ii_base.specs.Options.{downgrade, has_positions}
use Rattle.ii_base.specs.declared.doc_id.TheConstants.{TERMINATED}
use Rattle.ii_codes.specs.Sums.{fit_u32, running_sums}
use Rattle.ii_base.specs.Entries.{document}
use Rattle.ii_docset.specs.Cursor.{positions_at, term_freq_at}
use Rattle.ii_layout.specs.Postings.{entries_of}
use Rattle.ii_layout.specs.Positions.{position_deltas, positions_of, deltas_at}
use Rattle.ii_layout.specs.TermList.{deltas_if, docs_and_freqs, term_list, list_of, located, positions_if}
use Rattle.ii_layout.specs.Written.{block_of}
use Rattle.ii_base.specs.Entries.{are_documents}
use Rattle.ii_docset.proofs.CursorLemmas.{ascending, length_below}
use Rattle.ii_codes.specs.BlockDecoder.{BlockDecoderState}
use Rattle.ii_layout.specs.PositionReader.{PositionReaderState}
use Rattle.ii_layout.specs.SkipReader.{SkipReaderState}
use Rattle.ii_codes.proofs.LengthLemmas.{length-running_sums}
use Rattle.ii_layout.proofs.BlockDocs.{get_or-block_of}
use Rattle.ii_check.specs.CheckedPostings.{AreReadFreqs, CheckedPostingsState, HasDocuments, HoldsFreqs, IsAtBlock}
use Rattle.ii_check.specs.Positions.{deltas_read}
use Rattle.ii_check.proofs.PositionLemmas.{sum_low}
use Rattle.ii_reader.specs.BlockSegmentPostings.{AreEntries, BlockSegmentPostingsState, ComeBefore, freq_in_block}
use Rattle.ii_reader.proofs.BlockLemmas.{length-block_of}
use Rattle.ii_reader.specs.SegmentPostings.{AreGivenDeltas, FitCursor, HasDeltas}

-- what belongs to a cursor belongs to its counts
pub are_deltas : (cursor : BlockSegmentPostingsState) (deltas : Option (List ℕ)) → FitCursor cursor deltas → AreGivenDeltas cursor.freqs deltas
are_deltas cursor None f = tt
are_deltas cursor (Some ds) f = f.1

-- and to the cursor wherever it goes
pub fits_on : (old new : BlockSegmentPostingsState) (deltas : Option (List ℕ)) → new.recorded ≡ old.recorded → new.requested ≡ old.requested → new.freqs ≡ old.freqs → FitCursor old deltas → FitCursor new deltas
fits_on old new None recorded requested freqs f = tt
fits_on old new (Some ds) recorded requested freqs f = rw (recorded, requested, freqs) f

-- deltas that were found
found_for : (fs bytes ds : List ℕ) → deltas_at fs bytes ≡ Some ds → HasDeltas fs ds
found_for fs bytes ds e =
    let found = step-some (position_deltas bytes) _ ds e in
    let many = needs-some (eqb (length found.0) (sum fs)) _ ds found.2 in
    let fit = needs-some (list_all fit_u32 (positions_of fs found.0)) _ ds many.1 in
    let same = some-same fit.1 in
    record { many = rw same at (eqb-true (length found.0) (sum fs) many.0); fit = rw same at fit.0 }

some_cases : (fs bytes : List ℕ) (o : Option (List ℕ)) (deltas : Option (List ℕ)) → deltas_at fs bytes ≡ o → option_map Some o ≡ Some deltas → AreGivenDeltas (Some fs) deltas
some_cases fs bytes None deltas e h = absurd (cc)
some_cases fs bytes (Some ds) None e h = tt
some_cases fs bytes (Some ds) (Some ds') e h = found_for fs bytes ds' (e ∙ some-same h)

pub fits_found : (cursor : BlockSegmentPostingsState) (bytes deltas : Option (List ℕ)) (t : Bool) → has_positions (downgrade cursor.recorded cursor.requested) ≡ t → deltas_if t cursor.freqs bytes ≡ Some deltas → FitCursor cursor deltas
fits_found cursor bytes None t both h = tt
fits_found cursor bytes (Some ds) false both h = absurd (let none = some-same h in cc)
fits_found cursor bytes (Some ds) true both h = (both, by_freqs cursor.freqs bytes h)
  where
    by_freqs : (freqs bytes : Option (List ℕ)) → deltas_if true freqs bytes ≡ Some (Some ds) → AreGivenDeltas freqs (Some ds)
    by_freqs None bytes h = absurd (let none = some-same h in cc)
    by_freqs (Some fs) None h = absurd (let none = some-same h in cc)
    by_freqs (Some fs) (Some bs) h = some_cases fs bs (deltas_at fs bs) (Some ds) refl h

-- the positions of the current document
position_at : (docs freqs deltas : List ℕ) (i : ℕ) → length freqs ≡ length docs → i < length docs
    → positions_at (drop i (located (positions_of freqs deltas) (entries_of docs (Some freqs)))) ≡ running_sums 0 (take (get_or freqs i 0) (drop (sum (take i freqs)) deltas))
position_at [] freqs deltas i many within = absurd (omega arith)
position_at (d ∷ ds) [] deltas i many within = absurd (omega arith)
position_at (d ∷ ds) (f ∷ fs) deltas zero many within = refl
position_at (d ∷ ds) (f ∷ fs) deltas (suc i) many within =
    let place : f + sum (take i fs) ≡ sum (f ∷ take i fs) = sym (sum_by-cons (λ (x : ℕ). x) f (take i fs)) in
    position_at ds fs (drop f deltas) i (omega arith) (omega arith) ∙ ap (λ (xs : List ℕ). running_sums 0 (take (get_or fs i 0) xs)) (drop-drop (sum (take i fs)) f deltas ∙ ap (λ (k : ℕ). drop k deltas) place)

no_position : (docs : List ℕ) (freqs : Option (List ℕ)) (i : ℕ) → [] ≡ positions_at (drop i (entries_of docs freqs))
no_position [] None zero = refl
no_position [] None (suc i) = refl
no_position (d ∷ ds) None zero = refl
no_position (d ∷ ds) None (suc i) = no_position ds None i
no_position [] (Some fs) zero = refl
no_position [] (Some fs) (suc i) = refl
no_position (d ∷ ds) (Some []) zero = refl
no_position (d ∷ ds) (Some []) (suc i) = refl
no_position (d ∷ ds) (Some (f ∷ fs)) zero = refl
no_position (d ∷ ds) (Some (f ∷ fs)) (suc i) = no_position ds (Some fs) i

unread_cases : (freqs : Option (List ℕ)) → positions_if freqs None ≡ []
unread_cases None = refl
unread_cases (Some fs) = refl

pub none_at : (docs : List ℕ) (freqs deltas : Option (List ℕ)) (i : ℕ) → deltas ≡ None → [] ≡ positions_at (drop i (list_of docs freqs deltas))
none_at docs freqs deltas i e = no_position docs freqs i ∙ ap (λ (pss : List (List ℕ)). positions_at (drop i (located pss (entries_of docs freqs)))) (sym (ap (positions_if freqs) e ∙ unread_cases freqs))

few_at : (docs freqs deltas : List ℕ) (i : ℕ)
    → length (positions_at (drop i (located (positions_of freqs deltas) (entries_of docs (Some freqs))))) ≤ term_freq_at false (drop i (located (positions_of freqs deltas) (entries_of docs (Some freqs))))
few_at [] [] deltas zero = omega arith
few_at [] [] deltas (suc i) = omega arith
few_at [] (f ∷ fs) deltas zero = omega arith
few_at [] (f ∷ fs) deltas (suc i) = omega arith
few_at (d ∷ ds) [] deltas zero = omega arith
few_at (d ∷ ds) [] deltas (suc i) = omega arith
few_at (d ∷ ds) (f ∷ fs) deltas zero =
    let sums = length-running_sums 0 (take f deltas) in
    let size = length-take f deltas in
    omega (arith, sums, size)
few_at (d ∷ ds) (f ∷ fs) deltas (suc i) = few_at ds fs (drop f deltas) i

-- the current document has at most as many positions as its term frequency
pub few_positions : (docs : List ℕ) (freqs deltas : Option (List ℕ)) (i : ℕ) → length (positions_at (drop i (list_of docs freqs deltas))) ≤ term_freq_at false (drop i (list_of docs freqs deltas))
few_positions docs None deltas i = let none = ap length (no_position docs None i) in omega (arith, none)
few_positions docs (Some freqs) None i = let none = ap length (no_position docs (Some freqs) i) in omega (arith, none)
few_positions docs (Some freqs) (Some deltas) i = few_at docs freqs deltas i

-- What a reader is asked for the current document: its deltas, by the counts before it and its own.
pub record AsksFor (freqs deltas : List ℕ) (place start count : ℕ) : Type 0 where
  pub here : place < length freqs
  pub start_is : start ≡ sum (take place freqs)
  pub count_is : count ≡ get_or freqs place 0
  pub many : length deltas ≡ sum freqs

sum_part : (ns : List ℕ) (m : ℕ) → sum (take m ns) ≤ sum ns
sum_part ns m = sum_by-take-le (λ (x : ℕ). x) ns m

pub asks_inside : (freqs deltas : List ℕ) (place start count : ℕ) → AsksFor freqs deltas place start count → start + count ≤ length deltas
asks_inside freqs deltas place start count a =
    let next = sum_by_more (λ (x : ℕ). x) freqs place 0 a.here in
    let part = sum_part freqs (place + 1) in
    let s = a.start_is in
    let n = a.count_is in
    let many = a.many in
    omega arith

pub asks_positions : (docs freqs deltas : List ℕ) (place start count : ℕ) → AsksFor freqs deltas place start count → length freqs ≡ length docs
    → positions_at (drop place (list_of docs (Some freqs) (Some deltas))) ≡ running_sums 0 (take count (drop start deltas))
asks_positions docs freqs deltas place start count a many =
    let here = a.here in
    position_at docs freqs deltas place many (omega arith) ∙ (λ j. running_sums 0 (take (sym a.count_is j) (drop (sym a.start_is j) deltas)))

-- sums from an offset on are sums from 0 on and the offset
shifted : (before offset : ℕ) (ds : List ℕ) → map (λ (p : ℕ). p + offset) (running_sums before ds) ≡ running_sums (before + offset) ds
shifted before offset [] = refl
shifted before offset (d ∷ ds) =
    let first : before + d + offset ≡ before + offset + d = omega arith in
    let later = shifted (before + d) offset ds ∙ ap (λ (n : ℕ). running_sums n ds) first in
    λ j. first j ∷ later j

pub shifted_sums : (offset : ℕ) (ds : List ℕ) → map (λ (p : ℕ). p + offset) (running_sums 0 ds) ≡ running_sums offset ds
shifted_sums offset ds = let none : 0 + offset ≡ offset = omega arith in shifted 0 offset ds ∙ ap (λ (n : ℕ). running_sums n ds) none

low_sums : (offset : ℕ) (ps : List ℕ) → All (λ (p : ℕ). p + offset < 2 ^ 32) ps → fit_u32 (map (λ (p : ℕ). p + offset) ps) ≡ true
low_sums offset [] low = refl
low_sums offset (p ∷ ps) low =
    let first = lt-ltb (p + offset) (2 ^ 32) (All-head (λ (p : ℕ). p + offset < 2 ^ 32) p ps low) in
    rw first (low_sums offset ps (All-tail (λ (p : ℕ). p + offset < 2 ^ 32) p ps low))

pub sums_fit : (offset : ℕ) (ps ds : List ℕ) → All (λ (p : ℕ). p + offset < 2 ^ 32) ps → ps ≡ running_sums 0 ds → fit_u32 (running_sums offset ds) ≡ true
sums_fit offset ps ds low e = ap fit_u32 (sym (shifted_sums offset ds)) ∙ ap (λ (qs : List ℕ). fit_u32 (map (λ (p : ℕ). p + offset) qs)) (sym e) ∙ low_sums offset ps low

-- What a decoder holds of the counts of a block.
pub record HeldRow (freqs : Option (List ℕ)) (docs row : List ℕ) (block : ℕ) : Type 0 where
  pub counts : List ℕ
  pub are : freqs ≡ Some counts
  pub many : length counts ≡ length docs
  pub low : fit_u32 counts ≡ true
  pub row_is : row ≡ block_of counts block

pub held_row : (freqs : Option (List ℕ)) (docs row : List ℕ) (n block : ℕ) (decoder : BlockDecoderState) → HoldsFreqs freqs block decoder → IsSome freqs → length docs ≡ n → ((fs : List ℕ) → freqs ≡ Some fs → AreReadFreqs n fs) → row ≡ take decoder.output_len decoder.output
    → HeldRow freqs docs row block
held_row None docs row n block decoder held some many all e = absurd (cc)
held_row (Some fs) docs row n block decoder held some many all e =
    let are = all fs refl in
    record { counts = fs; are = refl; many = are.many ∙ sym many; low = are.low; row_is = e ∙ held.held }

pub row_size : (freqs : Option (List ℕ)) (docs row : List ℕ) (block idx : ℕ) → HeldRow freqs docs row block → idx < length (block_of docs block) → idx ≡ length (take idx row)
row_size freqs docs row block idx h inside =
    let same = length-block_of h.counts docs block h.many in
    let size = length-take idx row in
    let row_len = ap length h.row_is in
    omega arith

before_is : (freqs : Option (List ℕ)) (counts : List ℕ) (place offset : ℕ) → freqs ≡ Some counts → ComeBefore freqs place offset → offset ≡ sum (take place counts)
before_is None counts place offset e b = absurd (cc)
before_is (Some fs) counts place offset e b = b ∙ ap (λ (ns : List ℕ). sum (take place ns)) (some-same e)

before_of : (freqs : Option (List ℕ)) (counts : List ℕ) (place offset : ℕ) → freqs ≡ Some counts → offset ≡ sum (take place counts) → ComeBefore freqs place offset
before_of freqs counts place offset e is = rw e is

pub come_first : (p : CheckedPostingsState) (skip : SkipReaderState) (row : List ℕ) (offset idx : ℕ) → HasDocuments p → IsAtBlock p skip → HeldRow p.postings.freqs p.postings.docs row skip.block → has_positions p.recorded ≡ true → idx < length (block_of p.postings.docs skip.block)
    → offset ≡ skip.position_offset → ComeBefore p.postings.freqs (128 * skip.block + 0) offset
come_first p skip row offset idx has at h recorded inside e =
    let size = length-take 128 (drop (128 * skip.block) p.postings.docs) in
    let left = length-drop (128 * skip.block) p.postings.docs in
    let many = has.many in
    let within : skip.block ≤ p.doc_freq / 128 = omega arith in
    let place : 128 * skip.block ≡ 128 * skip.block + 0 = omega arith in
    let sums = e ∙ ap (λ (r : SkipReaderState). r.position_offset) at.reader ∙ has.sums h.counts h.are recorded skip.block within in
    before_of p.postings.freqs h.counts (128 * skip.block + 0) offset h.are (sums ∙ ap (λ (k : ℕ). sum (take k h.counts)) place)

next_is : (freqs : Option (List ℕ)) (docs row : List ℕ) (block idx i offset value : ℕ) (h : HeldRow freqs docs row block) → idx < length (block_of docs block) → i < length (take idx row) → value ≡ get_or (take idx row) i 0 → ComeBefore freqs (128 * block + i) offset
    → offset + value ≡ sum (take (128 * block + i + 1) h.counts)
next_is freqs docs row block idx i offset value h inside within e b =
    let whole = row_size freqs docs row block idx h inside in
    let size = length-take 128 (drop (128 * block) docs) in
    let left = length-drop (128 * block) docs in
    let many = h.many in
    let here = e ∙ get_or-take idx row i 0 (omega arith) ∙ ap (λ (vs : List ℕ). get_or vs i 0) h.row_is ∙ get_or-block_of h.counts block i (omega arith) in
    let before = before_is freqs h.counts (128 * block + i) offset h.are b in
    let next = sum_by_more (λ (x : ℕ). x) h.counts (128 * block + i) 0 (omega arith) in
    omega arith

pub come_next : (freqs : Option (List ℕ)) (docs row : List ℕ) (block idx i offset value : ℕ) → HeldRow freqs docs row block → idx < length (block_of docs block) → i < length (take idx row) → value ≡ get_or (take idx row) i 0 → ComeBefore freqs (128 * block + i) offset
    → ComeBefore freqs (128 * block + (i + 1)) (offset + value)
come_next freqs docs row block idx i offset value h inside within e b =
    let place : 128 * block + i + 1 ≡ 128 * block + (i + 1) = omega arith in
    before_of freqs h.counts (128 * block + (i + 1)) (offset + value) h.are (next_is freqs docs row block idx i offset value h inside within e b ∙ ap (λ (k : ℕ). sum (take k h.counts)) place)

many_documents : (docs : List ℕ) → are_documents docs ≡ true → length docs ≤ TERMINATED
many_documents docs up =
    let below = length_below (map document docs) (ascending docs up) in
    let many = length-map docs document in
    omega arith

pub next_low : (freqs : Option (List ℕ)) (docs row : List ℕ) (block idx i offset value : ℕ) → HeldRow freqs docs row block → are_documents docs ≡ true → idx < length (block_of docs block) → i < length (take idx row) → value ≡ get_or (take idx row) i 0 → ComeBefore freqs (128 * block + i) offset
    → offset + value < 2 ^ 64
next_low freqs docs row block idx i offset value h up inside within e b =
    let here = next_is freqs docs row block idx i offset value h inside within e b in
    let part = sum_part h.counts (128 * block + i + 1) in
    let low = sum_low h.counts h.low in
    let many = h.many in
    let most = many_documents docs up in
    omega arith

-- What a cursor asks its reader for.
fits_some : (cursor : BlockSegmentPostingsState) (reader : Option PositionReaderState) (r : PositionReaderState) → reader ≡ Some r → FitCursor cursor (deltas_read reader) → FitCursor cursor (Some r.deltas)
fits_some cursor reader r e f = subst (λ (o : Option PositionReaderState). FitCursor cursor (deltas_read o)) e f

counts_asked : (freqs : Option (List ℕ)) (docs ds : List ℕ) (block cur start count : ℕ) → AreGivenDeltas freqs (Some ds) → AreEntries (length docs) docs freqs → cur < length (block_of docs block) → ComeBefore freqs (128 * block + cur) start → count ≡ freq_in_block freqs block cur
    → (fs : List ℕ) × (freqs ≡ Some fs) × (length fs ≡ length docs) × AsksFor fs ds (128 * block + cur) start count
counts_asked None docs ds block cur start count d a inside b e = absurd d
counts_asked (Some fs) docs ds block cur start count d a inside b e =
    let many = (a.freqs_are fs refl).many in
    let size = length-take 128 (drop (128 * block) docs) in
    let left = length-drop (128 * block) docs in
    let count_is = e ∙ get_or-block_of fs block cur (omega arith) in
    (fs, refl, many, record { here = omega arith; start_is = b; count_is = count_is; many = d.many })

-- The request of a cursor at a current document.
pub record Asks (cursor : BlockSegmentPostingsState) (ds : List ℕ) (cur start count : ℕ) : Type 0 where
  pub counts : List ℕ
  pub are : cursor.freqs ≡ Some counts
  pub many : length counts ≡ length cursor.docs
  pub asks : AsksFor counts ds (128 * cursor.block + cur) start count

pub cursor_asks : (cursor : BlockSegmentPostingsState) (reader : Option PositionReaderState) (r : PositionReaderState) (cur start count : ℕ) → reader ≡ Some r → FitCursor cursor (deltas_read reader) → AreEntries (length cursor.docs) cursor.docs cursor.freqs
    → cur < length (block_of cursor.docs cursor.block) → ComeBefore cursor.freqs (128 * cursor.block + cur) start → count ≡ freq_in_block cursor.freqs cursor.block cur → Asks cursor r.deltas cur start count
cursor_asks cursor reader r cur start count e f a inside b count_is =
    let (fs, are, many, asks) = counts_asked cursor.freqs cursor.docs r.deltas cursor.block cur start count (fits_some cursor reader r e f).1 a inside b count_is in
    record { counts = fs; are = are; many = many; asks = asks }

-- where it ends in 64 bits
pub asks_low : (cursor : BlockSegmentPostingsState) (ds : List ℕ) (cur start count : ℕ) → Asks cursor ds cur start count → AreEntries (length cursor.docs) cursor.docs cursor.freqs → start + count < 2 ^ 64
asks_low cursor ds cur start count a entries =
    let inside = asks_inside a.counts ds (128 * cursor.block + cur) start count a.asks in
    let all = a.asks.many in
    let fs = entries.freqs_are a.counts a.are in
    let size = fs.many in
    let low = sum_low a.counts fs.low in
    let most = many_documents cursor.docs entries.ascending in
    omega arith

pub asked_positions : (cursor : BlockSegmentPostingsState) (reader : Option PositionReaderState) (r : PositionReaderState) (cur start count : ℕ) → reader ≡ Some r → Asks cursor r.deltas cur start count
    → positions_at (drop (128 * cursor.block + cur) (list_of cursor.docs cursor.freqs (deltas_read reader))) ≡ running_sums 0 (take count (drop start r.deltas))
asked_positions cursor reader r cur start count e a =
    (λ j. positions_at (drop (128 * cursor.block + cur) (list_of cursor.docs (a.are j) (deltas_read (e j))))) ∙ asks_positions cursor.docs a.counts r.deltas (128 * cursor.block + cur) start count a.asks a.many

-- the list that was opened
pub list_opened : (recorded requested : IndexRecordOption) (doc_freq block : ℕ) (bytes docs : List ℕ) (freqs positions deltas : Option (List ℕ)) → docs_and_freqs recorded requested doc_freq bytes ≡ Ok (docs, freqs)
    → deltas_if (has_positions (downgrade recorded requested)) freqs positions ≡ Some deltas → block ≡ 0 → term_list recorded requested doc_freq bytes positions ≡ Ok (drop (128 * block + 0) (list_of docs freqs deltas))
list_opened recorded requested doc_freq block bytes docs freqs positions deltas read found first =
    rw (read, found) (ap Ok (sym (ap (λ (n : ℕ). drop (128 * n + 0) (list_of docs freqs deltas)) first)))
