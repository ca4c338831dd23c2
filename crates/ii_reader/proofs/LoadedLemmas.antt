-- Laws of lists that are loaded into memory.
use Rattle.std.proofs.Common.{◌≡◌, ℕ, zero, suc, ◌+◌, ◌-◌, ◌<◌, ◌≤◌, ◌^◌, Bool, true, false, List, [], ◌∷◌, ◌++◌, length, take, drop, get_or, nat_lt, refl, sym, ap, ◌∙◌, arith, inl, inr, length-drop, length-append, append-nil, append_assoc}
use Rattle.std.specs.List.{All}
use Rattle.std.proofs.Math.Seq.{drop-cons, drop-append_seam, drop-length}
use Rattle.std.proofs.lemmas.Bool.{ltb-true, ltb-false}
use Rattle.std.proofs.lemmas.List.{get_or-drop, drop-drop, drop-append-le, take-append-le, get_or_append_left, get_or-append_right, length-map, nil_from_length, length-take-le, take_all, get_or_default}
use Rattle.std.proofs.lemmas.List.Elements.{All-map}
use Rattle.std.proofs.lemmas.List.Sums.{sum_by-cons}
use Rattle.ii_io.specs.declared.faults.Fault.{Fault}
use Rattle.ii_base.specs.declared.doc_id.TheConstants.{TERMINATED}
use Rattle.ii_base.specs.Entries.{Entry}
use Rattle.ii_docset.specs.Cursor.{total_freq, doc_at, positions_at, term_freq_at, IsAscending, FitsU32, IsInOrder, IsSound}
use Rattle.ii_docset.proofs.CursorLemmas.{IsSound_drop, length_below, length_step, nothing_left}
use Rattle.ii_reader.specs.LoadedPostings.{AreOffsets, IsEndOf, IsHeld, IsLoadFault, loaded, loaded_entry, num_positions, entry_between, entries_held}

-- the current entry of a list in memory, and those after it
pub held_at : (docs offsets positions : List ℕ) (c : ℕ) → c < length docs
    → entries_held (drop c docs) (drop c offsets) positions ≡ entry_between (get_or docs c 0) (get_or offsets c 0) (get_or offsets (c + 1) 0) positions ∷ entries_held (drop (c + 1) docs) (drop (c + 1) offsets) positions
held_at docs offsets positions c inside =
    let next : c + 1 ≡ suc c = omega arith in
    let same : c ≡ c + 0 = omega arith in
    let first = get_or-drop c offsets 0 0 ∙ sym (ap (λ (k : ℕ). get_or offsets k 0) same) in
    let second = get_or-drop c offsets 1 0 in
    let later = drop-drop 1 c offsets in
    rw (drop-cons docs c 0 inside, first, second, later, next) refl

-- the list goes on
pub next_held : (docs offsets positions : List ℕ) (c : ℕ) → c < length docs → entries_held (drop (c + 1) docs) (drop (c + 1) offsets) positions ≡ drop 1 (entries_held (drop c docs) (drop c offsets) positions)
next_held docs offsets positions c inside = sym (ap (drop 1) (held_at docs offsets positions c inside))

pub none_held : (docs offsets positions : List ℕ) (c : ℕ) → length docs ≤ c → entries_held (drop c docs) (drop c offsets) positions ≡ []
none_held docs offsets positions c past =
    let none = nil_from_length (drop c docs) (let size = length-drop c docs in omega arith) in
    rw none refl

pub length-entries_held : (docs offsets positions : List ℕ) → length (entries_held docs offsets positions) ≡ length docs
length-entries_held [] offsets positions = refl
length-entries_held (d ∷ ds) offsets positions = ap suc (length-entries_held ds (drop 1 offsets) positions)

-- positions that come later change no entry
entry_stays : (doc start end : ℕ) (positions more : List ℕ) → start ≤ end → end ≤ length positions → entry_between doc start end (positions ++ more) ≡ entry_between doc start end positions
entry_stays doc start end positions more order within =
    let size = length-drop start positions in
    rw (drop-append-le start positions more (omega arith), take-append-le (end - start) (drop start positions) more (omega arith)) refl

last_entry : (doc : ℕ) (positions more : List ℕ) → entry_between doc (length positions) (length (positions ++ more)) (positions ++ more) ≡ record { doc = doc; term_freq = length more; positions = more }
last_entry doc positions more =
    let size : length (positions ++ more) - length positions ≡ length more = let all = length-append positions more in omega arith in
    rw (drop-append_seam positions more, size, take_all (length more) more (omega arith)) refl

suc_add_one : (i : ℕ) → suc i + 1 ≡ suc (i + 1)
suc_add_one i = omega arith

tail_offsets : (d s e : ℕ) (docs offsets positions : List ℕ) → AreOffsets (d ∷ docs) (s ∷ e ∷ offsets) positions → AreOffsets docs (e ∷ offsets) positions
tail_offsets d s e docs offsets positions o =
    let many = o.many in
    record {
      many = omega arith;
      order = λ i inside. rw (suc_add_one i) at (o.order (suc i) (omega arith));
      within = λ i inside. rw (suc_add_one i) at (o.within (suc i) (omega arith));
    }

pub held_more : (docs offsets positions more : List ℕ) (doc : ℕ) → AreOffsets docs offsets positions → get_or offsets (length docs) 0 ≡ length positions
    → entries_held (docs ++ doc ∷ []) (offsets ++ length (positions ++ more) ∷ []) (positions ++ more) ≡ entries_held docs offsets positions ++ (record { doc = doc; term_freq = length more; positions = more }) ∷ []
held_more docs [] positions more doc o last = absurd (let many = o.many in omega arith)
held_more [] (s ∷ e ∷ offsets) positions more doc o last = absurd (let many = o.many in omega arith)
held_more [] (s ∷ []) positions more doc o last = rw last (ap (λ (e : Entry). e ∷ []) (last_entry doc positions more))
held_more (d ∷ docs) (s ∷ []) positions more doc o last = absurd (let many = o.many in omega arith)
held_more (d ∷ docs) (s ∷ e ∷ offsets) positions more doc o last =
    rw (entry_stays d s e positions more (o.order 0 (omega arith)) (o.within 0 (omega arith)))
    (ap (λ (es : List Entry). entry_between d s e positions ∷ es) (held_more docs (e ∷ offsets) positions more doc (tail_offsets d s e docs offsets positions o) last))

-- offsets with one more
order_more : (docs offsets positions more : List ℕ) (i : ℕ) (t : Bool) → AreOffsets docs offsets positions → get_or offsets (length docs) 0 ≡ length positions → nat_lt i (length docs) ≡ t → i < length docs + 1
    → (get_or (offsets ++ length (positions ++ more) ∷ []) i 0 ≤ get_or (offsets ++ length (positions ++ more) ∷ []) (i + 1) 0) × (get_or (offsets ++ length (positions ++ more) ∷ []) (i + 1) 0 ≤ length (positions ++ more))
order_more docs offsets positions more i true o last test inside =
    let many = o.many in
    let size = length-append positions more in
    let within = ltb-true i (length docs) test in
    let here = get_or_append_left offsets (length (positions ++ more) ∷ []) 0 i (omega arith) in
    let next = get_or_append_left offsets (length (positions ++ more) ∷ []) 0 (i + 1) (omega arith) in
    let order = o.order i within in
    let low = o.within i within in
    (omega arith, omega arith)
order_more docs offsets positions more i false o last test inside =
    let many = o.many in
    let size = length-append positions more in
    let past = ltb-false i (length docs) test in
    let end : i ≡ length docs = omega arith in
    let here = get_or_append_left offsets (length (positions ++ more) ∷ []) 0 i (omega arith) ∙ ap (λ (k : ℕ). get_or offsets k 0) end ∙ last in
    let none : i + 1 - (length docs + 1) ≡ 0 = omega arith in
    let next = get_or-append_right offsets (length (positions ++ more) ∷ []) (length docs + 1) (i + 1) 0 many (omega arith) ∙ ap (λ (k : ℕ). get_or (length (positions ++ more) ∷ []) k 0) none in
    (omega arith, omega arith)

pub offsets_more : (docs offsets positions more : List ℕ) (doc : ℕ) → AreOffsets docs offsets positions → get_or offsets (length docs) 0 ≡ length positions
    → AreOffsets (docs ++ doc ∷ []) (offsets ++ length (positions ++ more) ∷ []) (positions ++ more)
offsets_more docs offsets positions more doc o last =
    let many = o.many in
    let docs_many = length-append docs (doc ∷ []) in
    let offsets_many = length-append offsets (length (positions ++ more) ∷ []) in
    record {
      many = omega arith;
      order = λ i inside. (order_more docs offsets positions more i (nat_lt i (length docs)) o last refl (omega arith)).0;
      within = λ i inside. (order_more docs offsets positions more i (nat_lt i (length docs)) o last refl (omega arith)).1;
    }

-- Part of a list was loaded: the loaded and the remaining documents form the complete list.
pub record IsLoading (all rest : List Entry) (docs offsets positions : List ℕ) : Type 0 where
  pub offsets_are : AreOffsets docs offsets positions
  pub last : get_or offsets (length docs) 0 ≡ length positions
  pub parts : entries_held docs offsets positions ++ loaded rest ≡ loaded all
  pub passed : rest ≡ drop (length docs) all
  pub total : length positions + num_positions rest ≡ num_positions all
  pub few : length positions < 2 ^ 32

-- one more entry was loaded
more_loaded : (all rest : List Entry) (e : Entry) (docs offsets positions : List ℕ) → IsLoading all (e ∷ rest) docs offsets positions → length (positions ++ e.positions) < 2 ^ 32
    → IsLoading all rest (docs ++ e.doc ∷ []) (offsets ++ length (positions ++ e.positions) ∷ []) (positions ++ e.positions)
more_loaded all rest e docs offsets positions l few =
    let docs_many = length-append docs (e.doc ∷ []) in
    let many = l.offsets_are.many in
    let next : length (docs ++ e.doc ∷ []) ≡ length docs + 1 = omega arith in
    let none : length docs + 1 - (length docs + 1) ≡ 0 = omega arith in
    let total = l.total in
    let first = sum_by-cons (λ (x : Entry). length x.positions) e rest in
    let size = length-append positions e.positions in
    record {
      offsets_are = offsets_more docs offsets positions e.positions e.doc l.offsets_are l.last;
      last = rw next (get_or-append_right offsets (length (positions ++ e.positions) ∷ []) (length docs + 1) (length docs + 1) 0 many (omega arith) ∙ ap (λ (k : ℕ). get_or (length (positions ++ e.positions) ∷ []) k 0) none);
      parts = rw (held_more docs offsets positions e.positions e.doc l.offsets_are l.last, append_assoc (entries_held docs offsets positions) (loaded_entry e ∷ []) (loaded rest)) l.parts;
      passed = ap (drop 1) l.passed ∙ drop-drop 1 (length docs) all ∙ ap (λ (k : ℕ). drop k all) (sym next);
      total = omega arith;
      few = few;
    }

pub loaded_more : (all rest rest' : List Entry) (docs offsets positions : List ℕ) (doc : ℕ) → doc ≡ doc_at rest → doc < TERMINATED → IsLoading all rest docs offsets positions → rest' ≡ drop 1 rest → length (positions ++ positions_at rest) < 2 ^ 32
    → IsLoading all rest' (docs ++ doc ∷ []) (offsets ++ length (positions ++ positions_at rest) ∷ []) (positions ++ positions_at rest)
loaded_more all [] rest' docs offsets positions doc here low l next few = absurd (omega arith)
loaded_more all (e ∷ rest) rest' docs offsets positions doc here low l next few = rw (here, next) (more_loaded all rest e docs offsets positions l few)

-- an end of a list, by how many entries come before it
end_cases : (all : List Entry) (n : ℕ) (t : Bool) → nat_lt n (length all) ≡ t → IsEndOf all (drop n all)
end_cases all n true test =
    let inside = ltb-true n (length all) test in
    let size = length-drop n all in
    let place : n ≡ length all - length (drop n all) = omega arith in
    ap (λ (k : ℕ). drop k all) place
end_cases all n false test =
    let past = ltb-false n (length all) test in
    let size = length-drop n all in
    let none : length (drop n all) ≡ 0 = omega arith in
    let place : length all ≡ length all - length (drop n all) = omega arith in
    nil_from_length (drop n all) none ∙ sym (drop-length all) ∙ ap (λ (k : ℕ). drop k all) place

pub whole_end : (all : List Entry) → IsEndOf all all
whole_end all = end_cases all 0 (nat_lt 0 (length all)) refl

-- what is left is an end of the list
pub loading_end : (all rest : List Entry) (docs offsets positions : List ℕ) → IsLoading all rest docs offsets positions → IsEndOf all rest
loading_end all rest docs offsets positions l = rw l.passed (end_cases all (length docs) (nat_lt (length docs) (length all)) refl)

current_few : (es : List Entry) → length (positions_at es) ≤ num_positions es
current_few [] = omega arith
current_few (e ∷ es) = let first = sum_by-cons (λ (x : Entry). length x.positions) e es in omega arith

-- why the positions of the current document weren't loaded
pub loading_refused : (all rest : List Entry) (docs offsets positions : List ℕ) (fault : Fault) → IsLoading all rest docs offsets positions → IsLoadFault (length positions + length (positions_at rest)) fault → IsLoadFault (num_positions all) fault
loading_refused all rest docs offsets positions fault l (inl memory) = inl memory
loading_refused all rest docs offsets positions fault l (inr (is, many)) = inr (is, let few = current_few rest in let total = l.total in omega arith)

-- what is loaded of a sound list is sound
loaded_ascending : (es : List Entry) → IsAscending es → (doc_at (loaded es) ≡ doc_at es) × IsAscending (loaded es)
loaded_ascending [] h = (refl, tt)
loaded_ascending (e ∷ es) h =
    let later = loaded_ascending es h.1 in
    let low = h.0 in
    let next = later.0 in
    (refl, (omega arith, later.1))

one_of : (es : List Entry) (k : ℕ) (d : Entry) → k < length es → length (get_or es k d).positions ≤ num_positions es
one_of [] k d inside = absurd (omega arith)
one_of (e ∷ es) zero d inside = let first = sum_by-cons (λ (x : Entry). length x.positions) e es in omega arith
one_of (e ∷ es) (suc k) d inside =
    let first = sum_by-cons (λ (x : Entry). length x.positions) e es in
    let later = one_of es k d (omega arith) in
    omega arith

loaded_fits : (es : List Entry) → All FitsU32 es → num_positions es < 2 ^ 32 → All FitsU32 (loaded es)
loaded_fits es h few =
    All-map FitsU32 loaded_entry es (λ k d inside. (let most = one_of es k d inside in omega arith, (h k d inside).1))

pub loaded_sound : (es : List Entry) → IsSound es → num_positions es < 2 ^ 32 → IsSound (loaded es)
loaded_sound es h few = record { ascending = (loaded_ascending es h.ascending).1; fits = loaded_fits es h.fits few; in_order = All-map IsInOrder loaded_entry es (λ k d inside. h.in_order k d inside) }

-- the complete list was loaded
all_loaded : (all : List Entry) (docs offsets positions : List ℕ) → IsLoading all [] docs offsets positions → entries_held docs offsets positions ≡ loaded all
all_loaded all docs offsets positions l = sym (append-nil (entries_held docs offsets positions)) ∙ l.parts

-- What is known where the source came to its end.
pub record IsLoaded (all rest : List Entry) (docs offsets positions : List ℕ) : Type 0 where
  pub ended : rest ≡ []
  pub is : entries_held docs offsets positions ≡ loaded all
  pub many : length docs ≡ length all
  pub few : num_positions all < 2 ^ 32
  pub held : IsHeld docs offsets positions 0

loaded_to_end : (all rest : List Entry) (docs offsets positions : List ℕ) → IsSound all → [] ≡ rest → IsLoading all rest docs offsets positions → IsLoaded all rest docs offsets positions
loaded_to_end all [] docs offsets positions sound none l =
    let same = all_loaded all docs offsets positions l in
    let size = length-entries_held docs offsets positions in
    let loaded_size = length-map all loaded_entry in
    let lengths = ap length same in
    let below = length_below all sound.ascending in
    let total = l.total in
    let few = l.few in
    let all_few : num_positions all < 2 ^ 32 = omega arith in
    record {
      ended = refl;
      is = same;
      many = omega arith;
      few = all_few;
      held = record { offsets_are = l.offsets_are; few = omega arith; inside = omega arith; sound = rw same (loaded_sound all sound all_few) };
    }
loaded_to_end all (e ∷ rest) docs offsets positions sound none l = absurd (let lengths = ap length none in omega arith)

pub whole_loaded : (all rest : List Entry) (docs offsets positions : List ℕ) (doc : ℕ) → doc ≡ doc_at rest → TERMINATED ≤ doc → IsSound all → IsSound rest → IsLoading all rest docs offsets positions → IsLoaded all rest docs offsets positions
whole_loaded all rest docs offsets positions doc here past sound left l = loaded_to_end all rest docs offsets positions sound (nothing_left rest left.ascending (omega arith)) l

-- What holds of a list in memory at a current document, whose positions lie between two places.
pub record IsAt (docs offsets positions : List ℕ) (c start end : ℕ) : Type 0 where
  pub inside : c < length docs
  pub order : start ≤ end
  pub within : end ≤ length positions
  pub positions_are : take (end - start) (drop start positions) ≡ positions_at (entries_held (drop c docs) (drop c offsets) positions)
  pub count : length (take (end - start) (drop start positions)) ≡ term_freq_at false (entries_held (drop c docs) (drop c offsets) positions)

at_inside : (docs offsets positions : List ℕ) (c start end : ℕ) → IsHeld docs offsets positions c → c < length docs → start ≡ get_or offsets c 0 → end ≡ get_or offsets (c + 1) 0 → IsAt docs offsets positions c start end
at_inside docs offsets positions c start end h inside start_is end_is =
    let order = h.offsets_are.order c inside in
    let within = h.offsets_are.within c inside in
    let here = held_at docs offsets positions c inside in
    let left = length-drop start positions in
    let size = length-take-le (end - start) (drop start positions) (omega arith) in
    record {
      inside = inside;
      order = omega arith;
      within = omega arith;
      positions_are = rw (start_is, end_is) (sym (ap positions_at here));
      count = size ∙ rw (start_is, end_is) (sym (ap (term_freq_at false) here));
    }

at_cases : (docs offsets positions : List ℕ) (c start end : ℕ) (t : Bool) → IsHeld docs offsets positions c → doc_at (entries_held (drop c docs) (drop c offsets) positions) < TERMINATED → nat_lt c (length docs) ≡ t
    → start ≡ get_or offsets c start → end ≡ get_or offsets (c + 1) end → IsAt docs offsets positions c start end
at_cases docs offsets positions c start end true h current test start_is end_is =
    let inside = ltb-true c (length docs) test in
    let many = h.offsets_are.many in
    at_inside docs offsets positions c start end h inside (start_is ∙ sym (get_or_default offsets c 0 start (omega arith))) (end_is ∙ sym (get_or_default offsets (c + 1) 0 end (omega arith)))
at_cases docs offsets positions c start end false h current test start_is end_is =
    let none = none_held docs offsets positions c (ltb-false c (length docs) test) in
    let end = ap doc_at none in
    absurd (omega arith)

pub at_current : (docs offsets positions : List ℕ) (c start end : ℕ) → IsHeld docs offsets positions c → doc_at (entries_held (drop c docs) (drop c offsets) positions) < TERMINATED
    → start ≡ get_or offsets c start → end ≡ get_or offsets (c + 1) end → IsAt docs offsets positions c start end
at_current docs offsets positions c start end h current start_is end_is = at_cases docs offsets positions c start end (nat_lt c (length docs)) h current refl start_is end_is

pub next_is_held : (docs offsets positions : List ℕ) (c : ℕ) → IsHeld docs offsets positions c → c < length docs → IsHeld docs offsets positions (c + 1)
next_is_held docs offsets positions c h inside =
    record { offsets_are = h.offsets_are; few = h.few; inside = omega arith; sound = rw (next_held docs offsets positions c inside) (IsSound_drop 1 (entries_held (drop c docs) (drop c offsets) positions) h.sound) }

-- Positions were asked for once for each entry that was passed, with these counts.
pub record HasLoaded (asked counts : ℕ) (one : Bool) (all rest : List Entry) : Type 0 where
  pub asked_are : asked + length rest ≡ length all
  pub counts_are : counts + total_freq one rest ≡ total_freq one all

pub loaded_none : (one : Bool) (all : List Entry) → HasLoaded 0 0 one all all
loaded_none one all = record { asked_are = omega arith; counts_are = omega arith }

counts_step : (one : Bool) (es : List Entry) → doc_at es < TERMINATED → term_freq_at one es + total_freq one (drop 1 es) ≡ total_freq one es
counts_step one [] here = absurd (omega arith)
counts_step one (e ∷ es) here = refl

pub loaded_one : (asked counts : ℕ) (one other : Bool) (all rest next : List Entry) → HasLoaded asked counts one all rest → doc_at rest < TERMINATED → next ≡ drop 1 rest → other ≡ one → HasLoaded (asked + (1 + 0)) (counts + (term_freq_at other rest + 0)) one all next
loaded_one asked counts one other all rest next h here is same =
    let many = length_step rest here in
    let total = counts_step one rest here in
    let asked_are = h.asked_are in
    let counts_are = h.counts_are in
    rw (is, same) (record { asked_are = omega arith; counts_are = omega arith })

pub at_least_none : (n : ℕ) → 0 ≤ n
at_least_none n = omega arith

pub loaded_part : (asked counts : ℕ) (one : Bool) (all rest : List Entry) → HasLoaded asked counts one all rest → (asked ≤ length all) × (counts ≤ total_freq one all)
loaded_part asked counts one all rest h =
    let asked_are = h.asked_are in
    let counts_are = h.counts_are in
    (omega arith, omega arith)

pub loaded_refused : (asked counts : ℕ) (one other : Bool) (all rest : List Entry) → HasLoaded asked counts one all rest → doc_at rest < TERMINATED → other ≡ one → (asked + 1 ≤ length all) × (counts + term_freq_at other rest ≤ total_freq one all)
loaded_refused asked counts one other all rest h here same =
    let many = length_step rest here in
    let total = counts_step one rest here in
    let asked_are = h.asked_are in
    let counts_are = h.counts_are in
    rw same (omega arith, omega arith)
