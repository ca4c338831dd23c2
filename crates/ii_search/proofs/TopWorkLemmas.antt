-- The blocks that are decoded for the documents with the greatest counts.
use Rattle.std.proofs.Common.{◌≡◌, ◌∙◌, ℕ, zero, suc, ◌+◌, ◌-◌, ◌*◌, ◌^◌, ◌<◌, ◌≤◌, ◌⊎◌, inl, inr, Bool, true, false, List, [], ◌∷◌, ◌++◌, length, take, get_or, min, nat_le, nat_lt, if◌then◌else◌, refl, sym, ap, subst, append-nil, arith}
use Rattle.std.specs.List.{AllByRecursion, fold, range_with_len, sum_by}
use Rattle.std.proofs.Math.Nat.{min-le_left, min-le_right}
use Rattle.std.proofs.Math.Seq.{take-append-add}
use Rattle.std.proofs.lemmas.Bool.{lt-leb, leb-false, le-leb, ltb-false}
use Rattle.std.proofs.lemmas.List.{append_assoc, length-append}
use Rattle.std.proofs.lemmas.List.Sums.{fold-append, sum_by-append, sum_by-cons}
use Rattle.ii_base.specs.declared.doc_id.TheConstants.{TERMINATED}
use Rattle.ii_base.specs.Entries.{Entry}
use Rattle.ii_check.specs.CheckedPostings.{excludes}
use Rattle.ii_check.specs.DecodedBlocks.{DecodesAllowed}
use Rattle.ii_check.proofs.DecodedBlocksLaws.{allowed_none, allowed_on, allowed_weaker}
use Rattle.ii_definitions.proofs.ListLaws.{range_append}
use Rattle.ii_docset.specs.Cursor.{doc_at, IsAscending, IsSound, term_freq_at}
use Rattle.ii_docset.proofs.CursorLemmas.{nothing_left}
use Rattle.ii_reader.specs.Bounds.{AllowsFreq, blocks_with_freq, freq_bound, sought_with_freq}
use Rattle.ii_reader.specs.SegmentPostings.{SegmentPostingsState, StandsInBlock, WentLazily}
use Rattle.ii_reader.specs.SegmentPostingsLemmas.{went_nowhere, went_on}
use Rattle.ii_search.specs.TopByCount.{AllowsTop, DecodesForTop, before_block, blocks_for_top, by_count, least_count, needed, placed, top}
use Rattle.ii_search.proofs.TopLemmas.{AreBest, after, after_first, passed_one, take_twice}

-- the least of numbers is at most each of them
least_first : (from : ℕ) (row : List (ℕ × ℕ)) → fold (λ (least : ℕ) (b : ℕ × ℕ). min least b.1) from row ≤ from
least_first from [] = omega arith
least_first from (b ∷ bs) = let less = least_first (min from b.1) bs in let low = min-le_left from b.1 in omega arith

least_each : (from : ℕ) (row : List (ℕ × ℕ)) (k : ℕ) → k < length row → fold (λ (least : ℕ) (b : ℕ × ℕ). min least b.1) from row ≤ (get_or row k (0, 0)).1
least_each from [] k inside = absurd (omega arith)
least_each from (b ∷ bs) zero inside = let less = least_first (min from b.1) bs in let low = min-le_right from b.1 in omega arith
least_each from (b ∷ bs) (suc k) inside = least_each (min from b.1) bs k (omega arith)

-- what one document more needs, as it is needed
pub needed_best : (n : ℕ) (bs : List (ℕ × ℕ)) → length bs ≤ n → AreBest n (needed n bs) bs
needed_best n bs few = record {
  few = few;
  none = λ fewer. by (nat_lt (length bs) n) refl fewer;
  all = λ k inside. each (nat_lt (length bs) n) refl k inside;
}
  where
    by : (t : Bool) → nat_lt (length bs) n ≡ t → length bs < n → needed n bs ≡ 0
    by true test fewer = rw test refl
    by false test fewer = let high = ltb-false (length bs) n test in absurd (omega arith)

    each : (t : Bool) → nat_lt (length bs) n ≡ t → (k : ℕ) → k < length bs → needed n bs ≤ (get_or bs k (0, 0)).1 + 1
    each true test k inside = rw test (omega arith)
    each false test k inside =
        let low = least_each (2 ^ 32 - 1) bs k inside in
        let less = min-le_right (2 ^ 32 - 1) (least_count bs + 1) in
        rw test (omega arith)

-- A document has a count below this.
abbrev IsLow : ℕ → Entry → Type 0
IsLow least e = e.term_freq < least

-- A seek by count passed documents with lower counts.
record Passes (least : ℕ) (es later : List Entry) : Type 0 where
  skipped : List Entry
  whole : es ≡ skipped ++ later
  low : AllByRecursion (IsLow least) skipped

passes : (doc least : ℕ) (es : List Entry) → IsAscending es → doc < doc_at es → Passes least es (sought_with_freq (doc + 1) least es)
passes doc least [] up low = record { skipped = []; whole = refl; low = tt }
passes doc least (x ∷ es) up low = by (nat_le least x.term_freq) refl (passes doc least es up.1 (omega (arith, up.0)))
  where
    above : nat_le (doc + 1) x.doc ≡ true
    above = le-leb (doc + 1) x.doc (omega arith)

    by : (t : Bool) → nat_le least x.term_freq ≡ t → Passes least es (sought_with_freq (doc + 1) least es) → Passes least (x ∷ es) (sought_with_freq (doc + 1) least (x ∷ es))
    by true test p = record { skipped = []; whole = rw (above, test) refl; low = tt }
    by false test p = record { skipped = x ∷ p.skipped; whole = ap (λ (l : List Entry). x ∷ l) p.whole ∙ (rw (above, test) refl); low = (leb-false least x.term_freq test, p.low) }

-- documents with lower counts leave the first n as they are
same_best : (n least : ℕ) (bs : List (ℕ × ℕ)) (ys : List Entry) → AreBest n least bs → AllByRecursion (IsLow least) ys → take n (after bs ys) ≡ take n bs
same_best n least bs [] b low = refl
same_best n least bs (y ∷ ys) b low = passed_one n least bs y ys b low.0 ∙ same_best n least bs ys b low.1

-- the first n of a list and of what follows it
top_append : (n : ℕ) (xs ys : List Entry) → top n (xs ++ ys) ≡ take n (after (top n xs) ys)
top_append n xs ys = ap (take n) (fold-append (λ (sorted : List (ℕ × ℕ)) (e : Entry). placed (e.doc, e.term_freq) sorted) [] xs ys) ∙ after_first n (by_count xs) ys

-- the first documents of a list of lower counts and what follows
low_front : (least m : ℕ) (skipped later : List Entry) → AllByRecursion (IsLow least) skipped → (length later ≡ 0) ⊎ (m ≤ length skipped) → AllByRecursion (IsLow least) (take m (skipped ++ later))
low_front least zero skipped later low few = tt
low_front least (suc m) [] [] low few = tt
low_front least (suc m) [] (e ∷ es) low (inl none) = absurd (omega (arith, none))
low_front least (suc m) [] (e ∷ es) low (inr within) = absurd (omega (arith, within))
low_front least (suc m) (x ∷ xs) later low few = (low.0, low_front least m xs later low.1 (fewer few))
  where
    fewer : (length later ≡ 0) ⊎ (suc m ≤ suc (length xs)) → (length later ≡ 0) ⊎ (m ≤ length xs)
    fewer (inl none) = inl none
    fewer (inr within) = inr (omega (arith, within))

-- the first n of the documents up to a place among those that were passed
same_top : (n least m : ℕ) (front skipped later : List Entry) → AreBest n least (top n front) → length (top n front) ≤ n → AllByRecursion (IsLow least) skipped → length front ≤ m → (length later ≡ 0) ⊎ (m ≤ length front + length skipped)
    → top n (take m (front ++ (skipped ++ later))) ≡ top n front
same_top n least m front skipped later b few low above within =
    let here : m ≡ length front + (m - length front) = omega arith in
    ap (λ (k : ℕ). top n (take k (front ++ (skipped ++ later)))) here
    ∙ ap (top n) (take-append-add front (skipped ++ later) (m - length front))
    ∙ top_append n front (take (m - length front) (skipped ++ later))
    ∙ same_best n least (top n front) (take (m - length front) (skipped ++ later)) b (low_front least (m - length front) skipped later low (fewer within))
    ∙ take_twice n (by_count front)
  where
    fewer : (length later ≡ 0) ⊎ (m ≤ length front + length skipped) → (length later ≡ 0) ⊎ (m - length front ≤ length skipped)
    fewer (inl none) = inl none
    fewer (inr inside) = inr (omega (arith, inside))

-- sums over a range of what is equal on it
sum_same : (f g : ℕ → ℕ) (start many : ℕ) → ((k : ℕ) → start ≤ k → k < start + many → f k ≡ g k) → sum_by f (range_with_len start many) ≡ sum_by g (range_with_len start many)
sum_same f g start zero same = refl
sum_same f g start (suc many) same =
    sum_by-cons f start (range_with_len (start + 1) many)
    ∙ (λ j. same start (omega arith) (omega arith) j + sum_same f g (start + 1) many (λ k low high. same k (omega (arith, low)) (omega (arith, high))) j)
    ∙ sym (sum_by-cons g start (range_with_len (start + 1) many))

-- Of the documents of a cursor, those in front of the remaining ones were looked at or passed, and the first n of them are known.
pub record IsTopping (n doc : ℕ) (initial now : SegmentPostingsState) (bs : List (ℕ × ℕ)) : Type 0 where
  pub doc_is : doc ≡ doc_at now.rest
  pub sound : IsSound now.rest
  pub few : length bs ≤ n
  pub front : List Entry
  pub whole : initial.rest ≡ front ++ now.rest
  pub best : bs ≡ top n front
  pub went : WentLazily initial now
  pub place : StandsInBlock now
  pub decodes : DecodesForTop n initial now

pub tops_none : (n doc : ℕ) (s : SegmentPostingsState) (bs : List (ℕ × ℕ)) → bs ≡ [] → doc ≡ doc_at s.rest → IsSound s.rest → StandsInBlock s → IsTopping n doc s s bs
tops_none n doc s bs none here sound place = record {
  doc_is = here;
  sound = sound;
  few = let empty = ap length none in omega (arith, empty);
  front = [];
  whole = refl;
  best = nothing n;
  went = went_nowhere s;
  place = place;
  decodes = record { doc_blocks = allowed_none (AllowsTop n s) s.block s.doc_blocks; freq_blocks = allowed_none (AllowsTop n s) s.block s.freq_blocks; docs = omega arith; freqs = omega arith };
}
  where
    nothing : (k : ℕ) → bs ≡ take k []
    nothing zero = none
    nothing (suc k) = none

-- A seek by count passed entries after the one that was looked at, none of which is among the first n.
record HasPassed (n least : ℕ) (s now next : SegmentPostingsState) (front skipped : List Entry) (e : Entry) : Type 0 where
  pub was : WentLazily s now
  pub goes : WentLazily now next
  pub stands : StandsInBlock now
  pub lands : StandsInBlock next
  pub inside : length (front ++ e ∷ []) ≤ length s.rest
  pub whole : s.rest ≡ (front ++ e ∷ []) ++ (skipped ++ next.rest)
  pub rest_is : now.rest ≡ e ∷ (skipped ++ next.rest)
  pub least_is : least ≡ needed n (top n (front ++ e ∷ []))
  pub few : length (top n (front ++ e ∷ [])) ≤ n
  pub low : AllByRecursion (IsLow least) skipped

-- so the first n are the same before each block that was passed or reached
top_before : (n least : ℕ) (s now next : SegmentPostingsState) (front skipped : List Entry) (e : Entry) → HasPassed n least s now next front skipped e → (b : ℕ) → now.block < b → b ≤ next.block → top n (before_block s b) ≡ top n (front ++ e ∷ [])
top_before n least s now next front skipped e p b after_block up_to =
    let m = 128 * b + length s.rest - s.doc_freq in
    let total : length s.rest ≡ length looked + (length skipped + length next.rest) = ap length p.whole ∙ length-append looked (skipped ++ next.rest) ∙ ap (λ (k : ℕ). length looked + k) (length-append skipped next.rest) in
    let left : length now.rest ≡ suc (length skipped + length next.rest) = ap length p.rest_is ∙ ap suc (length-append skipped next.rest) in
    let same = p.was.doc_freq in
    let same_next = p.goes.doc_freq in
    let first = p.stands.here (omega (arith, left)) in
    let near = p.stands.near in
    let inside = p.inside in
    let above : length looked ≤ m = omega arith in
    ap (λ (rest : List Entry). top n (take m rest)) p.whole
    ∙ same_top n least m looked skipped next.rest (rw p.least_is (needed_best n (top n looked) p.few)) p.few p.low above (within total same same_next (by_length next.rest))
  where
    looked : List Entry
    looked = front ++ e ∷ []

    by_length : (rest : List Entry) → (length rest ≡ 0) ⊎ (0 < length rest)
    by_length [] = inl refl
    by_length (x ∷ xs) = inr (omega arith)

    within : length s.rest ≡ length looked + (length skipped + length next.rest) → now.doc_freq ≡ s.doc_freq → next.doc_freq ≡ now.doc_freq → (length next.rest ≡ 0) ⊎ (0 < length next.rest)
        → (length next.rest ≡ 0) ⊎ (128 * b + length s.rest - s.doc_freq ≤ length looked + length skipped)
    within total same same_next (inl none) = inl none
    within total same same_next (inr some) = let lands_at = p.lands.here some in inr (omega arith)

-- its blocks are those that may have one of the first n
blocks_same : (n least : ℕ) (s now next : SegmentPostingsState) (front skipped : List Entry) (e : Entry) → HasPassed n least s now next front skipped e
    → blocks_with_freq least now.bounds now.block next.block ≡ sum_by (λ (b : ℕ). if excludes (needed n (top n (before_block s b))) (freq_bound s.bounds b) then 0 else 1) (range_with_len (now.block + 1) (next.block - now.block))
blocks_same n least s now next front skipped e p =
    let forward = p.goes.forward in
    sum_same _ _ (now.block + 1) (next.block - now.block) (λ b after_block up_to.
    ap (λ (bounds : List (ℕ × ℕ)). if excludes least (freq_bound bounds b) then 0 else 1) p.was.bounds
    ∙ ap (λ (l : ℕ). if excludes l (freq_bound s.bounds b) then 0 else 1) (p.least_is ∙ ap (needed n) (sym (top_before n least s now next front skipped e p b (omega arith) (omega arith)))))

allowed_same : (n least : ℕ) (s now next : SegmentPostingsState) (front skipped : List Entry) (e : Entry) → HasPassed n least s now next front skipped e
    → (b : ℕ) → now.block < b → b ≤ next.block → AllowsFreq least now.bounds b → AllowsTop n s b
allowed_same n least s now next front skipped e p b after_block up_to allowed =
    ap (λ (l : ℕ). excludes l (freq_bound s.bounds b)) (ap (needed n) (top_before n least s now next front skipped e p b after_block up_to) ∙ sym p.least_is)
    ∙ ap (λ (bounds : List (ℕ × ℕ)). excludes least (freq_bound bounds b)) (sym p.was.bounds) ∙ allowed

-- What a seek by count does after a document.
pub record IsSought (least after_doc next_doc : ℕ) (now next : SegmentPostingsState) : Type 0 where
  pub doc : next_doc ≡ doc_at next.rest
  pub rest : next.rest ≡ sought_with_freq (after_doc + 1) least now.rest
  pub sound : IsSound next.rest
  pub went : WentLazily now next
  pub place : StandsInBlock next
  pub doc_blocks : DecodesAllowed (AllowsFreq least now.bounds) now.block next.block now.doc_blocks next.doc_blocks
  pub freq_blocks : DecodesAllowed (AllowsFreq least now.bounds) now.block next.block now.freq_blocks next.freq_blocks
  pub docs : next.doc_decodes ≤ now.doc_decodes + blocks_with_freq least now.bounds now.block next.block
  pub freqs : next.freq_decodes ≤ now.freq_decodes + blocks_with_freq least now.bounds now.block next.block

-- one document more
pub tops_on : (n doc count least next_doc : ℕ) (s now next : SegmentPostingsState) (bs cs : List (ℕ × ℕ)) → IsTopping n doc s now bs → doc < TERMINATED → count ≡ term_freq_at false now.rest
    → cs ≡ take n (placed (doc, count) bs) → length cs ≤ n → least ≡ needed n cs → IsSought least doc next_doc now next → IsTopping n next_doc s next cs
tops_on n doc count least next_doc s now next bs cs i below freq cs_is few least_is sought = by now.rest refl
  where
    passed_all : (looked skipped : List Entry) → length (top n looked) ≤ n → AllByRecursion (IsLow least) skipped → least ≡ needed n (top n looked) → top n (looked ++ skipped) ≡ top n looked
    passed_all looked skipped fewer low is =
        top_append n looked skipped ∙ same_best n least (top n looked) skipped (rw is (needed_best n (top n looked) fewer)) low ∙ take_twice n (by_count looked)

    by : (es : List Entry) → now.rest ≡ es → IsTopping n next_doc s next cs
    by [] none = absurd (omega (arith, i.doc_is ∙ ap doc_at none, below))
    by (e ∷ es) is =
        let doc_is : doc ≡ e.doc = i.doc_is ∙ ap doc_at is in
        let count_is : count ≡ e.term_freq = freq ∙ ap (term_freq_at false) is in
        let up_here : IsAscending (e ∷ es) = subst IsAscending is i.sound.ascending in
        let past : nat_le (doc + 1) e.doc ≡ false = lt-leb (doc + 1) e.doc (omega (arith, doc_is)) in
        let on_is : next.rest ≡ sought_with_freq (doc + 1) least es = sought.rest ∙ ap (sought_with_freq (doc + 1) least) is ∙ (rw past refl) in
        let p = passes doc least es up_here.1 (omega (arith, up_here.0, doc_is)) in
        let split : es ≡ p.skipped ++ next.rest = p.whole ∙ ap (λ (l : List Entry). p.skipped ++ l) (sym on_is) in
        let looked = i.front ++ e ∷ [] in
        let whole : s.rest ≡ looked ++ (p.skipped ++ next.rest) =
        i.whole ∙ ap (λ (l : List Entry). i.front ++ l) is ∙ sym (append_assoc i.front (e ∷ []) es) ∙ ap (λ (l : List Entry). looked ++ l) split in
        let best : cs ≡ top n looked =
        cs_is ∙ (λ j. take n (placed (doc_is j, count_is j) (i.best j))) ∙ sym (top_append n i.front (e ∷ [])) in
        let fewer : length (top n looked) ≤ n = rw (← best) few in
        let long : length looked ≤ length s.rest = let total = ap length whole ∙ length-append looked (p.skipped ++ next.rest) in omega arith in
        let passed : HasPassed n least s now next i.front p.skipped e =
        record { was = i.went; goes = sought.went; stands = i.place; lands = sought.place; inside = long; whole = whole; rest_is = is ∙ ap (λ (l : List Entry). e ∷ l) split; least_is = least_is ∙ ap (needed n) best; few = fewer; low = p.low }
        in
        let same = blocks_same n least s now next i.front p.skipped e passed in
        let allows = allowed_same n least s now next i.front p.skipped e passed in
        let forward = i.went.forward in
        let onward = sought.went.forward in
        let parts : next.block - s.block ≡ (now.block - s.block) + (next.block - now.block) = omega arith in
        let begins : s.block + 1 + (now.block - s.block) ≡ now.block + 1 = omega arith in
        let allowed = λ (b : ℕ). if excludes (needed n (top n (before_block s b))) (freq_bound s.bounds b) then 0 else 1 in
        let sums : blocks_for_top n s next.block ≡ blocks_for_top n s now.block + blocks_with_freq least now.bounds now.block next.block =
        ap (λ (k : ℕ). sum_by allowed (range_with_len (s.block + 1) k)) parts
        ∙ ap (sum_by allowed) (range_append (s.block + 1) (now.block - s.block) (next.block - now.block))
        ∙ sum_by-append allowed (range_with_len (s.block + 1) (now.block - s.block)) (range_with_len (s.block + 1 + (now.block - s.block)) (next.block - now.block))
        ∙ ap (λ (k : ℕ). blocks_for_top n s now.block + sum_by allowed (range_with_len k (next.block - now.block))) begins
        ∙ ap (λ (k : ℕ). blocks_for_top n s now.block + k) (sym same) in
        let docs_so_far = i.decodes.docs in
        let freqs_so_far = i.decodes.freqs in
        let docs = sought.docs in
        let freqs = sought.freqs in
        record {
          doc_is = sought.doc;
          sound = sought.sound;
          few = few;
          front = looked ++ p.skipped;
          whole = whole ∙ sym (append_assoc looked p.skipped next.rest);
          best = best ∙ sym (passed_all looked p.skipped fewer p.low (least_is ∙ ap (needed n) best));
          went = went_on s now next i.went sought.went;
          place = sought.place;
          decodes = record {
            doc_blocks = allowed_on (AllowsTop n s) s.block now.block next.block s.doc_blocks now.doc_blocks next.doc_blocks forward onward i.decodes.doc_blocks (allowed_weaker (AllowsFreq least now.bounds) (AllowsTop n s) now.block next.block now.doc_blocks next.doc_blocks allows sought.doc_blocks);
            freq_blocks = allowed_on (AllowsTop n s) s.block now.block next.block s.freq_blocks now.freq_blocks next.freq_blocks forward onward i.decodes.freq_blocks (allowed_weaker (AllowsFreq least now.bounds) (AllowsTop n s) now.block next.block now.freq_blocks next.freq_blocks allows sought.freq_blocks);
            docs = omega (arith, sums, docs, docs_so_far);
            freqs = omega (arith, sums, freqs, freqs_so_far);
          };
        }

-- nothing is left at the end
pub at_end : (n doc : ℕ) (s now : SegmentPostingsState) (bs : List (ℕ × ℕ)) → IsTopping n doc s now bs → TERMINATED ≤ doc → now.rest ≡ []
at_end n doc s now bs t end = let here = t.doc_is in sym (nothing_left now.rest t.sound.ascending (omega arith))

-- all documents were looked at
pub tops_all : (n doc : ℕ) (s now : SegmentPostingsState) (bs : List (ℕ × ℕ)) → IsTopping n doc s now bs → TERMINATED ≤ doc → bs ≡ top n s.rest
tops_all n doc s now bs t end = t.best ∙ ap (top n) (sym (t.whole ∙ ap (λ (l : List Entry). t.front ++ l) (at_end n doc s now bs t end) ∙ append-nil t.front))
