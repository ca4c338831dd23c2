-- Documents found in one segment after the other.
use Rattle.std.proofs.Common.{◌≡◌, ◌∙◌, ℕ, zero, suc, ◌+◌, ◌<◌, ◌≤◌, Bool, true, false, List, [], ◌∷◌, ◌++◌, append-nil, append_assoc, length, map, filter, take, drop, get_or, Ok, Err, Result, Some, refl, sym, ap, arith, subst, ◌⊎◌, inl, inr}
use Rattle.std.specs.Prelude.{slice_get}
use Rattle.std.specs.List.{All, AllByRecursion}
use Rattle.std.proofs.lemmas.List.{map-append, take_all}
use Rattle.std.proofs.lemmas.List.Elements.{All-from_recursion, recursion_from_All}
use Rattle.ii_io.specs.declared.faults.Fault.{Fault}
use Rattle.ii_io.specs.declared.faults.Fault.TheVariants.{OutOfMemory}
use Rattle.ii_io.specs.declared.faults.Part.{Part}
use Rattle.ii_reader.specs.InvertedIndexReader.{IsRefusal}
use Rattle.ii_base.specs.Entries.{Entry, docs_of}
use Rattle.ii_base.specs.Schema.{SchemaEntry}
use Rattle.ii_base.specs.declared.doc_id.TheConstants.{TERMINATED}
use Rattle.ii_docset.specs.Cursor.{FitsU32, IsAscending, IsInOrder, IsSound, doc_at}
use Rattle.ii_alive.specs.Alive.{num_living, rank}
use Rattle.ii_query_parser.specs.declared.query.Query.{Query}
use Rattle.ii_query_parser.specs.Queries.{has_fields, matches}
use Rattle.ii_search.specs.Found.{found_in}
use Rattle.ii_segments.specs.Segments.{AreSegmentTokens, Segment, is_living, living_docs, living_entries, num_docs_of}
use Rattle.ii_living_docs.specs.LivingDocs.{AreNumbered}
use Rattle.ii_definitions.proofs.ListLaws.{all_both}
use Rattle.ii_alive.proofs.RankLemmas.{rank_below}
use Rattle.ii_segment_search.specs.SegmentSearch.{found_in_segments}
use Rattle.ii_segment_search.proofs.FindLaws.{finds_in_segments}
use Rattle.ii_segment_search.specs.Searcher.{AddsFound, AreFew, AreFound, FailsForMemory, HaveFields, MayAsk, Reaches, OpenSegmentState, SegmentHolds, SegmentsHold, found_from, total_living}

ok_same : (xs ys : List Entry) (r : Result (List Entry) Part) → r ≡ Ok xs → r ≡ Ok ys → xs ≡ ys
ok_same xs ys r first second = let both : Ok xs ≡ Ok ys = sym first ∙ second in cc

err_ok : {C : Type 0} (part : Part) (es : List Entry) (r : Result (List Entry) Part) → r ≡ Err part → r ≡ Ok es → C
err_ok part es r first second = absurd (let both : Err part ≡ Ok es = sym first ∙ second in cc)

module _ (query : Query) where
  -- one more segment, in which documents are found
  pub found_more : (base : ℕ) (xs : List OpenSegmentState) (s : OpenSegmentState) (es fs : List Entry) → found_from query base xs ≡ Ok es → found_in s.index query ≡ Ok fs
      → found_from query base (xs ++ s ∷ []) ≡ Ok (es ++ living_entries (base + total_living xs) s.alive fs)
  found_more base [] s es fs before here =
      let none : [] ≡ es = ok_same [] es (Ok []) refl before in
      let first : base ≡ base + 0 = omega arith in
      rw here (ap Ok (append-nil (living_entries base s.alive fs) ∙ ap (λ (b : ℕ). living_entries b s.alive fs) first ∙ ap (λ (l : List Entry). l ++ living_entries (base + 0) s.alive fs) none))
  found_more base (x ∷ xs) s es fs before here = by (found_in x.index query) refl (found_from query (base + num_living x.alive) xs) refl (λ hs others. found_more (base + num_living x.alive) xs s hs fs others here)
    where
      by : (first : Result (List Entry) Part) → found_in x.index query ≡ first → (others : Result (List Entry) Part) → found_from query (base + num_living x.alive) xs ≡ others
          → ((hs : List Entry) → found_from query (base + num_living x.alive) xs ≡ Ok hs → found_from query (base + num_living x.alive) (xs ++ s ∷ []) ≡ Ok (hs ++ living_entries (base + num_living x.alive + total_living xs) s.alive fs))
          → found_from query base ((x ∷ xs) ++ s ∷ []) ≡ Ok (es ++ living_entries (base + total_living (x ∷ xs)) s.alive fs)
      by (Ok gs) is (Ok hs) rest more =
          let whole : living_entries base x.alive gs ++ hs ≡ es = ok_same (living_entries base x.alive gs ++ hs) es (found_from query base (x ∷ xs)) (rw (is, rest) refl) before in
          let place : base + num_living x.alive + total_living xs ≡ base + (num_living x.alive + total_living xs) = omega arith in
          let later = more hs rest in
          rw (is, later)
          (ap Ok (sym (append_assoc (living_entries base x.alive gs) hs (living_entries (base + num_living x.alive + total_living xs) s.alive fs)) ∙ ap (λ (l : List Entry). l ++ living_entries (base + num_living x.alive + total_living xs) s.alive fs) whole
          ∙ ap (λ (b : ℕ). es ++ living_entries b s.alive fs) place))
      by (Ok gs) is (Err part) rest more = err_ok part es (found_from query base (x ∷ xs)) (rw (is, rest) refl) before
      by (Err part) is others rest more = err_ok part es (found_from query base (x ∷ xs)) (rw is refl) before

  -- one more segment, in which a part is corrupt
  pub found_refused : (base : ℕ) (xs ys : List OpenSegmentState) (s : OpenSegmentState) (es : List Entry) (part : Part) → found_from query base xs ≡ Ok es → found_in s.index query ≡ Err part
      → found_from query base (xs ++ s ∷ ys) ≡ Err part
  found_refused base [] ys s es part before failed = rw failed refl
  found_refused base (x ∷ xs) ys s es part before failed = by (found_in x.index query) refl (found_from query (base + num_living x.alive) xs) refl (λ hs others. found_refused (base + num_living x.alive) xs ys s hs part others failed)
    where
      by : (first : Result (List Entry) Part) → found_in x.index query ≡ first → (others : Result (List Entry) Part) → found_from query (base + num_living x.alive) xs ≡ others
          → ((hs : List Entry) → found_from query (base + num_living x.alive) xs ≡ Ok hs → found_from query (base + num_living x.alive) (xs ++ s ∷ ys) ≡ Err part)
          → found_from query base ((x ∷ xs) ++ s ∷ ys) ≡ Err part
      by (Ok gs) is (Ok hs) rest more = rw (is, more hs rest) refl
      by (Ok gs) is (Err other) rest more = err_ok other es (found_from query base (x ∷ xs)) (rw (is, rest) refl) before
      by (Err other) is others rest more = err_ok other es (found_from query base (x ∷ xs)) (rw is refl) before

-- Each document is below a number.
abbrev pub AllBelow : ℕ → List Entry → Type 0
AllBelow bound es = AllByRecursion (λ (e : Entry). e.doc < bound) es

ascending_append : (bound : ℕ) (xs ys : List Entry) → IsAscending xs → AllBelow bound xs → IsAscending ys → bound ≤ doc_at ys → IsAscending (xs ++ ys)
ascending_append bound [] ys first below second low = second
ascending_append bound (x ∷ []) ys first below second low = (omega (arith, below.0, low), second)
ascending_append bound (x ∷ y ∷ xs) ys first below second low = (first.0, ascending_append bound (y ∷ xs) ys first.1 below.1 second low)

all_append : (P : Entry → Type 0) (xs ys : List Entry) → All P xs → All P ys → All P (xs ++ ys)
all_append P xs ys first second = All-from_recursion P (xs ++ ys) (all_both P xs ys (recursion_from_All P xs first) (recursion_from_All P ys second))

-- documents after others
pub sound_append : (bound : ℕ) (xs ys : List Entry) → IsSound xs → AllBelow bound xs → IsSound ys → bound ≤ doc_at ys → IsSound (xs ++ ys)
sound_append bound xs ys first below second low = record {
  ascending = ascending_append bound xs ys first.ascending below second.ascending low;
  fits = all_append FitsU32 xs ys first.fits second.fits;
  in_order = all_append IsInOrder xs ys first.in_order second.in_order;
}

module _ (base : ℕ) (alive : List Bool) where
  -- numbers begin with the first one
  pub living_from : (es : List Entry) → base ≤ TERMINATED → base ≤ doc_at (living_entries base alive es)
  living_from [] few = few
  living_from (e ∷ es) few = by (is_living alive e.doc) refl (living_from es few)
    where
      by : (b : Bool) → is_living alive e.doc ≡ b → base ≤ doc_at (living_entries base alive es) → base ≤ doc_at (living_entries base alive (e ∷ es))
      by true is later = rw is (omega arith)
      by false is later = rw is later

  -- and end before those of the next segment
  pub living_below : (es : List Entry) → AllBelow (base + num_living alive) (living_entries base alive es)
  living_below [] = tt
  living_below (e ∷ es) = by (is_living alive e.doc) refl (living_below es)
    where
      by : (b : Bool) → is_living alive e.doc ≡ b → AllBelow (base + num_living alive) (living_entries base alive es) → AllBelow (base + num_living alive) (living_entries base alive (e ∷ es))
      by true is later = rw is (omega (arith, rank_below alive e.doc is), later)
      by false is later = rw is later

-- documents below a number are below a greater one
pub below_more : (low high : ℕ) (es : List Entry) → low ≤ high → AllBelow low es → AllBelow high es
below_more low high [] le below = tt
below_more low high (e ∷ es) le below = (omega (arith, le, below.0), below_more low high es le below.1)

pub below_both : (bound : ℕ) (xs ys : List Entry) → AllBelow bound xs → AllBelow bound ys → AllBelow bound (xs ++ ys)
below_both bound xs ys first second = all_both (λ (e : Entry). e.doc < bound) xs ys first second

module _ {X : Type 0} where
  taken_step : (x : X) (ys : List X) (j : ℕ) → slice_get ys j ≡ Some x → take (suc j) ys ≡ take j ys ++ x ∷ []
  taken_step x [] j there = absurd (cc)
  taken_step x (y ∷ ys) zero there = let same : y ≡ x = cc in ap (λ z. z ∷ []) same
  taken_step x (y ∷ ys) (suc j) there = ap (λ zs. y ∷ zs) (taken_step x ys j there)

  take_one : (xs : List X) (k : ℕ) (x : X) → slice_get xs k ≡ Some x → take (k + 1) xs ≡ take k xs ++ x ∷ []
  take_one xs k x at =
      let next : k + 1 ≡ suc k = omega arith in
      ap (λ (n : ℕ). take n xs) next ∙ taken_step x xs k at

pub total_more : (xs : List OpenSegmentState) (s : OpenSegmentState) → total_living (xs ++ s ∷ []) ≡ total_living xs + num_living s.alive
total_more [] s = omega arith
total_more (x ∷ xs) s = omega (arith, total_more xs s)

-- the documents of the first segments are no more than those of all
total_taken : (k : ℕ) (xs : List OpenSegmentState) → total_living (take k xs) ≤ total_living xs
total_taken zero xs = omega arith
total_taken (suc k) [] = omega arith
total_taken (suc k) (x ∷ xs) = omega (arith, total_taken k xs)

module _ (query : Query) where
  abbrev numbered : ℕ → Segment → List ℕ
  numbered base s = map (λ (doc : ℕ). base + rank s.alive doc) (filter (matches query s.tokens) (living_docs s.alive))

  segments_more : (base : ℕ) (xs : List Segment) (s : Segment) → found_in_segments query base (xs ++ s ∷ []) ≡ found_in_segments query base xs ++ numbered (base + num_docs_of xs) s
  segments_more base [] s =
      let first : base ≡ base + 0 = omega arith in
      append-nil (numbered base s) ∙ ap (λ (b : ℕ). numbered b s) first
  segments_more base (x ∷ xs) s =
      let place : base + num_living x.alive + num_docs_of xs ≡ base + (num_living x.alive + num_docs_of xs) = omega arith in
      ap (λ (l : List ℕ). numbered base x ++ l) (segments_more (base + num_living x.alive) xs s)
      ∙ sym (append_assoc (numbered base x) (found_in_segments query (base + num_living x.alive) xs) (numbered (base + num_living x.alive + num_docs_of xs) s))
      ∙ ap (λ (b : ℕ). found_in_segments query base (x ∷ xs) ++ numbered b s) place

module _ (entries : List SchemaEntry) where
  same_total : (k : ℕ) (opened : List OpenSegmentState) (ss : List Segment) → SegmentsHold entries opened ss → total_living (take k opened) ≡ num_docs_of (take k ss)
  same_total zero opened ss hold = refl
  same_total (suc k) [] [] hold = refl
  same_total (suc k) [] (s ∷ ss) hold = elim hold [ ]
  same_total (suc k) (o ∷ os) [] hold = elim hold [ ]
  same_total (suc k) (o ∷ os) (s ∷ ss) hold = omega (arith, ap num_living hold.0.alive, same_total k os ss hold.1)

  -- The segment at a place, and its open segment.
  record HoldsAt (opened : OpenSegmentState) (ss : List Segment) (k : ℕ) : Type 0 where
    segment : Segment
    there : slice_get ss k ≡ Some segment
    holds : SegmentHolds entries opened segment

  segment_at : (k : ℕ) (opened : List OpenSegmentState) (ss : List Segment) (o : OpenSegmentState) → SegmentsHold entries opened ss → slice_get opened k ≡ Some o → HoldsAt o ss k
  segment_at k [] ss o hold at = absurd (cc)
  segment_at k (p ∷ ps) [] o hold at = elim hold [ ]
  segment_at zero (p ∷ ps) (s ∷ ss) o hold at = let same : p ≡ o = cc in record { segment = s; there = refl; holds = subst (λ (q : OpenSegmentState). SegmentHolds entries q s) same hold.0 }
  segment_at (suc k) (p ∷ ps) (s ∷ ss) o hold at =
      let later = segment_at k ps ss o hold.1 at in
      record { segment = later.segment; there = later.there; holds = later.holds }

-- What a search has found in the first segments.
pub record IsSearched (query : Query) (segments : List OpenSegmentState) (place base : ℕ) (es : List Entry) : Type 0 where
  pub within : place ≤ length segments
  pub numbers : base ≡ total_living (take place segments)
  pub found : found_from query 0 (take place segments) ≡ Ok es
  pub sound : IsSound es
  pub below : AllBelow base es
  pub holds : (entries : List SchemaEntry) (ss : List Segment) → SegmentsHold entries segments ss → MayAsk entries query → docs_of es ≡ found_in_segments query 0 (take place ss)

module _ (query : Query) (segments : List OpenSegmentState) (place base : ℕ) (es : List Entry) (few : AreFew segments) (is : IsSearched query segments place base es) (s : OpenSegmentState) (at : slice_get segments place ≡ Some s) where
  taken : take (place + 1) segments ≡ take place segments ++ s ∷ []
  taken = take_one segments place s at

  -- one more segment has numbers
  pub has_numbers : AreNumbered base s.alive
  has_numbers = record {
    few = omega (arith, few.living, total_taken (place + 1) segments, ap total_living taken, total_more (take place segments) s, is.numbers);
    short = each segments place few.each at;
  }
    where
      each : (xs : List OpenSegmentState) (k : ℕ) → AllByRecursion (λ (x : OpenSegmentState). length x.alive ≤ TERMINATED) xs → slice_get xs k ≡ Some s → length s.alive ≤ TERMINATED
      each [] k all there = absurd (cc)
      each (x ∷ xs) zero all there = let same : x ≡ s = cc in subst (λ (y : OpenSegmentState). length y.alive ≤ TERMINATED) same all.0
      each (x ∷ xs) (suc k) all there = each xs k all.1 there

  within_more : (xs : List OpenSegmentState) (k : ℕ) → slice_get xs k ≡ Some s → k < length xs
  within_more [] k there = absurd (cc)
  within_more (x ∷ xs) zero there = omega arith
  within_more (x ∷ xs) (suc k) there = omega (arith, within_more xs k there)

  -- one more segment was searched
  pub searched_more : (new : List Entry) → AddsFound query base s es new → IsSearched query segments (place + 1) (base + num_living s.alive) new
  searched_more new adds = record {
    within = omega (arith, within_more segments place at);
    numbers = omega (arith, is.numbers, ap total_living taken, total_more (take place segments) s);
    found =
        ap (found_from query 0) taken ∙ found_more query 0 (take place segments) s es adds.es is.found adds.found
        ∙ ap (λ (b : ℕ). Ok (es ++ living_entries b s.alive adds.es)) number ∙ ap Ok (sym adds.rest);
    sound = subst IsSound (sym adds.rest) (sound_append base es (living_entries base s.alive adds.es) is.sound is.below adds.sound (living_from base s.alive adds.es (omega (arith, has_numbers.few))));
    below =
        subst (AllBelow (base + num_living s.alive)) (sym adds.rest)
        (below_both (base + num_living s.alive) es (living_entries base s.alive adds.es) (below_more base (base + num_living s.alive) es (omega arith) is.below) (living_below base s.alive adds.es));
    holds = λ entries ss hold ask. finds entries ss hold ask;
  }
    where
      number : 0 + total_living (take place segments) ≡ base
      number = omega (arith, is.numbers)

      finds : (entries : List SchemaEntry) (ss : List Segment) → SegmentsHold entries segments ss → MayAsk entries query → docs_of new ≡ found_in_segments query 0 (take (place + 1) ss)
      finds entries ss hold ask =
          let own = segment_at entries place segments ss s hold at in
          let number : base ≡ 0 + num_docs_of (take place ss) = omega (arith, is.numbers, same_total entries place segments ss hold) in
          ap docs_of adds.rest
          ∙ map-append (λ (e : Entry). e.doc) es (living_entries base s.alive adds.es)
          ∙ ap (λ (l : List ℕ). l ++ docs_of (living_entries base s.alive adds.es)) (is.holds entries ss hold ask)
          ∙ ap (λ (l : List ℕ). found_in_segments query 0 (take place ss) ++ l) (adds.holds entries own.segment own.holds ask)
          ∙ ap (λ (b : ℕ). found_in_segments query 0 (take place ss) ++ numbered query b own.segment) number
          ∙ sym (segments_more query 0 (take place ss) own.segment)
          ∙ ap (found_in_segments query 0) (sym (take_one ss place own.segment own.there))

module _ (entries : List SchemaEntry) where
  each_token : (opened : List OpenSegmentState) (ss : List Segment) → SegmentsHold entries opened ss → AllByRecursion (AreSegmentTokens entries) ss
  each_token [] [] hold = tt
  each_token [] (s ∷ ss) hold = elim hold [ ]
  each_token (o ∷ os) [] hold = elim hold [ ]
  each_token (o ∷ os) (s ∷ ss) hold = (hold.0.tokens, each_token os ss hold.1)

  all_taken : (k : ℕ) (opened : List OpenSegmentState) (ss : List Segment) → SegmentsHold entries opened ss → length opened ≤ k → take k ss ≡ ss
  all_taken zero [] [] hold all = refl
  all_taken (suc k) [] [] hold all = refl
  all_taken k [] (s ∷ ss) hold all = elim hold [ ]
  all_taken k (o ∷ os) [] hold all = elim hold [ ]
  all_taken zero (o ∷ os) (s ∷ ss) hold all = absurd (omega (arith, all))
  all_taken (suc k) (o ∷ os) (s ∷ ss) hold all = ap (λ (l : List Segment). s ∷ l) (all_taken k os ss hold.1 (omega (arith, all)))

  -- all segments were searched
  pub searched_all : (query : Query) (segments : List OpenSegmentState) (place base : ℕ) (es rest : List Entry) (ss : List Segment) → IsSearched query segments place base es → length segments ≤ place → rest ≡ es
      → SegmentsHold entries segments ss → MayAsk entries query → Reaches query ss → AreFound query ss rest
  searched_all query segments place base es rest ss is all same hold ask reaches =
      ap docs_of same ∙ is.holds entries ss hold ask ∙ ap (found_in_segments query 0) (all_taken place segments ss hold all)
      ∙ sym (finds_in_segments entries query ss reaches.limit (each_token segments ss hold) reaches.living reaches.each reaches.covers)

  -- where segments hold tokens, a search of one fails only for memory
  pub fails_for_memory : (query : Query) (segments : List OpenSegmentState) (place : ℕ) (s : OpenSegmentState) (ss : List Segment) (fault : Fault) → slice_get segments place ≡ Some s → FailsForMemory query s fault → SegmentsHold entries segments ss
      → MayAsk entries query → fault ≡ OutOfMemory
  fails_for_memory query segments place s ss fault at memory hold ask =
      let own = segment_at entries place segments ss s hold at in
      memory entries own.segment own.holds ask

parted_step : (s : OpenSegmentState) (ys : List OpenSegmentState) (j : ℕ) → slice_get ys j ≡ Some s → ys ≡ take j ys ++ s ∷ drop (suc j) ys
parted_step s [] j at = absurd (cc)
parted_step s (y ∷ ys) zero at = let same : y ≡ s = cc in ap (λ z. z ∷ ys) same
parted_step s (y ∷ ys) (suc j) at = ap (λ zs. y ∷ zs) (parted_step s ys j at)

-- a refusal of one segment is that of all
pub refused_segment : (query : Query) (segments : List OpenSegmentState) (place base : ℕ) (es : List Entry) (s : OpenSegmentState) (fault : Fault) → IsSearched query segments place base es → slice_get segments place ≡ Some s
    → IsRefusal (found_in s.index query) fault → IsRefusal (found_from query 0 segments) fault
refused_segment query segments place base es s fault is at (inl memory) = inl memory
refused_segment query segments place base es s fault is at (inr (part, damaged, failed)) =
    inr (part, damaged, ap (found_from query 0) (parted_step s segments place at) ∙ found_refused query 0 (take place segments) (drop (suc place) segments) s es part is.found failed)

-- the query has fields of each segment
pub fields_at : (query : Query) (segments : List OpenSegmentState) (k : ℕ) (s : OpenSegmentState) → HaveFields query segments → slice_get segments k ≡ Some s → has_fields (length s.index.readers) query ≡ true
fields_at query [] k s all at = absurd (cc)
fields_at query (x ∷ xs) zero s all at = let same : x ≡ s = cc in subst (λ (y : OpenSegmentState). has_fields (length y.index.readers) query ≡ true) same all.0
fields_at query (x ∷ xs) (suc k) s all at = fields_at query xs k s all.1 at

-- what is read at a place is there
pub at_place : (xs : List OpenSegmentState) (k : ℕ) (x : OpenSegmentState) → k < length xs → x ≡ get_or xs k x → slice_get xs k ≡ Some x
at_place [] k x within is = absurd (omega (arith, within))
at_place (y ∷ ys) zero x within is = ap Some (sym is)
at_place (y ∷ ys) (suc k) x within is = at_place ys k x (omega (arith, within)) is

-- all segments are those up to their end
pub listed_all : (query : Query) (segments : List OpenSegmentState) (place base : ℕ) (es rest : List Entry) → IsSearched query segments place base es → length segments ≤ place → rest ≡ es → found_from query 0 segments ≡ Ok rest
listed_all query segments place base es rest is all same = ap (found_from query 0) (sym (take_all place segments all)) ∙ is.found ∙ ap Ok (sym same)

-- What is known of the first segments, each with numbers so far.
pub record AreFewSoFar (segments : List OpenSegmentState) (place total : ℕ) : Type 0 where
  pub within : place ≤ length segments
  pub counted : total ≡ total_living (take place segments)
  pub few : total ≤ TERMINATED
  pub each : AllByRecursion (λ (s : OpenSegmentState). length s.alive ≤ TERMINATED) (take place segments)

module _ (segments : List OpenSegmentState) (place total : ℕ) (s : OpenSegmentState) (is : AreFewSoFar segments place total) (at : slice_get segments place ≡ Some s) where
  one_taken : take (place + 1) segments ≡ take place segments ++ s ∷ []
  one_taken = take_one segments place s at

  pub few_more : length s.alive ≤ TERMINATED → total + num_living s.alive ≤ TERMINATED → AreFewSoFar segments (place + 1) (total + num_living s.alive)
  few_more short fits = record {
    within = omega (arith, place_within segments place at);
    counted = omega (arith, is.counted, ap total_living one_taken, total_more (take place segments) s);
    few = fits;
    each = subst (AllByRecursion (λ (x : OpenSegmentState). length x.alive ≤ TERMINATED)) (sym one_taken) (all_both (λ (x : OpenSegmentState). length x.alive ≤ TERMINATED) (take place segments) (s ∷ []) is.each (short, tt));
  }
    where
      place_within : (xs : List OpenSegmentState) (k : ℕ) → slice_get xs k ≡ Some s → k < length xs
      place_within [] k there = absurd (cc)
      place_within (x ∷ xs) zero there = omega arith
      place_within (x ∷ xs) (suc k) there = omega (arith, place_within xs k there)

  -- a segment with too many documents
  pub too_many : (TERMINATED < length s.alive) ⊎ (TERMINATED < total + num_living s.alive) → AreFew segments → ⊥
  too_many many few = by many
    where
      each : (xs : List OpenSegmentState) (k : ℕ) → AllByRecursion (λ (x : OpenSegmentState). length x.alive ≤ TERMINATED) xs → slice_get xs k ≡ Some s → length s.alive ≤ TERMINATED
      each [] k all there = absurd (cc)
      each (x ∷ xs) zero all there = let same : x ≡ s = cc in subst (λ (y : OpenSegmentState). length y.alive ≤ TERMINATED) same all.0
      each (x ∷ xs) (suc k) all there = each xs k all.1 there

      by : (TERMINATED < length s.alive) ⊎ (TERMINATED < total + num_living s.alive) → ⊥
      by (inl long) = absurd (omega (arith, long, each segments place few.each at))
      by (inr large) = absurd (omega (arith, large, few.living, total_taken (place + 1) segments, ap total_living one_taken, total_more (take place segments) s, is.counted))

pub few_all : (segments : List OpenSegmentState) (place total : ℕ) → AreFewSoFar segments place total → length segments ≤ place → AreFew segments
few_all segments place total is all =
    let whole = take_all place segments all in
    record { living = omega (arith, is.few, is.counted, ap total_living whole); each = subst (AllByRecursion (λ (x : OpenSegmentState). length x.alive ≤ TERMINATED)) whole is.each }

-- the living documents of the first segments, and of one more
pub total_step : (segments : List OpenSegmentState) (place : ℕ) (s : OpenSegmentState) → slice_get segments place ≡ Some s → total_living (take (place + 1) segments) ≡ total_living (take place segments) + num_living s.alive
total_step segments place s at = ap total_living (take_one segments place s at) ∙ total_more (take place segments) s

pub total_within : (segments : List OpenSegmentState) (place : ℕ) → AreFew segments → total_living (take place segments) ≤ TERMINATED
total_within segments place few = omega (arith, few.living, total_taken place segments)
