-- What the bodies of a field hold of its terms.
use Rattle.std.proofs.Common.{◌≡◌, ℕ, zero, suc, ◌+◌, ◌-◌, ◌^◌, ◌<◌, Bool, true, false, ◌||◌, cond, List, [], ◌∷◌, ◌++◌, length, Option, None, Some, Ok, refl, sym, ap, ◌∙◌, arith, append-nil, length-append, append_assoc, slice_index_or}
use Rattle.std.specs.Prelude.{bytes_eq, MatchOption}
use Rattle.std.specs.List.{AllByRecursion, Contains, flat_map, slice_range, zip}
use Rattle.std.specs.List.Sorted.{IsStrictlySortedBy}
use Rattle.std.specs.Map.{lookup}
use Rattle.std.specs.Ordering.{nat_cmp}
use Rattle.std.specs.Cmp.Lexicographic.{bytes_decides, slice_cmp}
use Rattle.std.specs.declared.cmp.Ordering.TheVariants.{Less, Greater}
use Rattle.std.proofs.Math.Seq.{drop-append_seam, take-append_seam}
use Rattle.std.proofs.lemmas.Cmp.{nat_list_cmp_total}
use Rattle.std.proofs.lemmas.List.{length-map}
use Rattle.std.proofs.lemmas.Map.Made.{keys_of-zip}
use Rattle.ii_io.specs.NumberLemmas.{reads_what_is_written}
use Rattle.ii_base.specs.declared.schema.index_record_option.IndexRecordOption.{IndexRecordOption}
use Rattle.ii_termstore.specs.declared.term_info.TermInfo.{TermInfo}
use Rattle.ii_termstore.specs.ReadBack.{AreStorable}
use Rattle.ii_termstore.specs.TermInfos.{HasLengths, IsInRange, term_info_from}
use Rattle.ii_termstore.specs.Written.{info_in}
use Rattle.ii_termdict.specs.Dictionary.{TermEntry, dictionary, info_under}
use Rattle.ii_termdict.specs.ReadBack.{AreAscending, ReadsDictionaryBack}
use Rattle.ii_termdict.specs.Written.{written_dictionary}
use Rattle.ii_definitions.specs.Files.{LiesIn}
use Rattle.ii_recorder.specs.Terms.{IsShort, WrittenTerm, field_bodies, infos_from, postings_bytes, positions_body, positions_bytes}
use Rattle.ii_recorder.specs.FieldTerms.{HasTerms}
use Rattle.ii_recorder.specs.HeldTerms.{AreHoldable, HoldsEachTerm, HoldsKey, KeepsTerm, HoldsTerms, HoldsWhatIsWritten, HoldsWritten, has_key, written_keys}
use Rattle.ii_recorder.specs.TermPlaces.{TermPlacesState}
use Rattle.std.proofs.Math.Bool.{or-true}

-- The bytes of terms follow each other from these places to the ends.
record StandFrom (mode : IndexRecordOption) (postings positions : List ℕ) (a p : ℕ) (ts : List WrittenTerm) : Type 0 where
  before : List ℕ
  before_too : List ℕ
  start : length before ≡ a
  start_too : length before_too ≡ p
  rest : postings ≡ before ++ flat_map postings_bytes ts
  rest_too : positions ≡ before_too ++ positions_body mode ts

-- bytes between others
between : (before xs after all : List ℕ) (a : ℕ) → length before ≡ a → all ≡ before ++ (xs ++ after) → slice_range all a (a + length xs) ≡ xs
between before xs after all a start is =
    let size : length before + length xs - length before ≡ length xs = omega arith in
    rw (is, ← start, size, drop-append_seam before (xs ++ after)) (take-append_seam xs after)

lies : (before xs after all : List ℕ) (a : ℕ) → length before ≡ a → all ≡ before ++ (xs ++ after) → LiesIn all (record { start = a; end = a + length xs })
lies before xs after all a start is = (omega arith, rw is (omega (arith, length-append before (xs ++ after), length-append xs after)))

further : (before xs after all : List ℕ) → all ≡ before ++ (xs ++ after) → all ≡ (before ++ xs) ++ after
further before xs after all is = is ∙ sym (append_assoc before xs after)

first_held : (mode : IndexRecordOption) (postings positions : List ℕ) (a p : ℕ) (t : WrittenTerm) (ts : List WrittenTerm) → StandFrom mode postings positions a p (t ∷ ts)
    → HoldsWritten mode postings positions t (term_info_from (length t.docs) a (a + length (postings_bytes t)) p (p + length (positions_bytes mode t.deltas)))
first_held mode postings positions a p t ts h = record {
  doc_freq = refl;
  postings_range = lies h.before (postings_bytes t) (flat_map postings_bytes ts) postings a h.start h.rest;
  positions_range = lies h.before_too (positions_bytes mode t.deltas) (positions_body mode ts) positions p h.start_too h.rest_too;
  postings_are = between h.before (postings_bytes t) (flat_map postings_bytes ts) postings a h.start h.rest;
  positions_are = between h.before_too (positions_bytes mode t.deltas) (positions_body mode ts) positions p h.start_too h.rest_too;
}

others_stand : (mode : IndexRecordOption) (postings positions : List ℕ) (a p : ℕ) (t : WrittenTerm) (ts : List WrittenTerm) → StandFrom mode postings positions a p (t ∷ ts)
    → StandFrom mode postings positions (a + length (postings_bytes t)) (p + length (positions_bytes mode t.deltas)) ts
others_stand mode postings positions a p t ts h = record {
  before = h.before ++ postings_bytes t;
  before_too = h.before_too ++ positions_bytes mode t.deltas;
  start = length-append h.before (postings_bytes t) ∙ ap (λ (n : ℕ). n + length (postings_bytes t)) h.start;
  start_too = length-append h.before_too (positions_bytes mode t.deltas) ∙ ap (λ (n : ℕ). n + length (positions_bytes mode t.deltas)) h.start_too;
  rest = further h.before (postings_bytes t) (flat_map postings_bytes ts) postings h.rest;
  rest_too = further h.before_too (positions_bytes mode t.deltas) (positions_body mode ts) positions h.rest_too;
}

key_more : (mode : IndexRecordOption) (postings positions : List ℕ) (t : WrittenTerm) (ts : List WrittenTerm) (key : List ℕ) (info : TermInfo) → HoldsKey mode postings positions ts key info
    → HoldsKey mode postings positions (t ∷ ts) key info
key_more mode postings positions t ts key info h = record { term = h.term; written = (suc h.written.0, omega (arith, h.written.1), h.written.2); key_is = h.key_is; held = h.held }

match_more : (o : Option TermInfo) (P : Type 0) (Q R : TermInfo → Type 0) → ((info : TermInfo) → Q info → R info) → MatchOption o P Q → MatchOption o P R
match_more None P Q R f h = h
match_more (Some info) P Q R f h = f info h

-- the first entry, or one of the others
first_or_later : (mode : IndexRecordOption) (postings positions : List ℕ) (t : WrittenTerm) (ts : List WrittenTerm) (key : List ℕ) (info : TermInfo) (later : Option TermInfo) → HoldsWritten mode postings positions t info
    → MatchOption later (has_key key ts ≡ false) (HoldsKey mode postings positions ts key) → (b : Bool) → bytes_eq key t.key ≡ b
    → MatchOption (cond b (Some info) later) ((b || has_key key ts) ≡ false) (HoldsKey mode postings positions (t ∷ ts) key)
first_or_later mode postings positions t ts key info later held others true e = record { term = t; written = (0, omega arith, refl); key_is = sym ((bytes_decides key t.key).0 e); held = held }
first_or_later mode postings positions t ts key info later held others false e = match_more later _ _ _ (key_more mode postings positions t ts key) others

found : (mode : IndexRecordOption) (postings positions : List ℕ) (a p : ℕ) (ts : List WrittenTerm) (key : List ℕ) → StandFrom mode postings positions a p ts
    → MatchOption (lookup (bytes_eq key) (zip (written_keys ts) (infos_from mode a p ts))) (has_key key ts ≡ false) (HoldsKey mode postings positions ts key)
found mode postings positions a p [] key h = refl
found mode postings positions a p (t ∷ ts) key h =
    first_or_later mode postings positions t ts key _ _ (first_held mode postings positions a p t ts h)
    (found mode postings positions (a + length (postings_bytes t)) (p + length (positions_bytes mode t.deltas)) ts key (others_stand mode postings positions a p t ts h)) (bytes_eq key t.key) refl

many_infos : (mode : IndexRecordOption) (a p : ℕ) (ts : List WrittenTerm) → length (infos_from mode a p ts) ≡ length (written_keys ts)
many_infos mode a p [] = refl
many_infos mode a p (t ∷ ts) = ap suc (many_infos mode (a + length (postings_bytes t)) (p + length (positions_bytes mode t.deltas)) ts)

-- the bodies of a field whose dictionary is read back
pub holds_terms : (mode : IndexRecordOption) (tokens : ℕ) (ts : List WrittenTerm) → tokens < 2 ^ 64 → dictionary (field_bodies mode tokens ts).terms ≡ Ok (zip (written_keys ts) (infos_from mode 0 0 ts))
    → AreAscending (written_keys ts) → HoldsTerms mode tokens (field_bodies mode tokens ts) ts
holds_terms mode tokens ts small sorted ascending = record {
  entries = zip (written_keys ts) (infos_from mode 0 0 ts);
  postings_body = flat_map postings_bytes ts;
  counted = reads_what_is_written 8 tokens (flat_map postings_bytes ts) small;
  sorted = sorted;
  ascending = ascending;
  keys = keys_of-zip (written_keys ts) (infos_from mode 0 0 ts) (many_infos mode 0 0 ts);
  exact = λ key. found mode (flat_map postings_bytes ts) (positions_body mode ts) 0 0 ts key (record { before = []; before_too = []; start = refl; start_too = refl; rest = refl; rest_too = refl });
}

-- and as they are after the last call for a field
pub field_holds : (mode : IndexRecordOption) (tokens : ℕ) (ts : List WrittenTerm) (places : TermPlacesState) → tokens < 2 ^ 64 → HasTerms mode places ts []
    → dictionary (written_dictionary places.keys places.infos) ≡ Ok (zip places.keys places.infos) → HoldsTerms mode tokens (field_bodies mode tokens ts) ts
field_holds mode tokens ts places small has sorted =
    let keys : places.keys ≡ written_keys ts = has.keys ∙ append-nil (written_keys ts) in
    holds_terms mode tokens ts small (rw (keys, has.infos) at sorted) (rw keys at has.ascending)

-- no two terms have one key
apart : (key : List ℕ) (ts : List WrittenTerm) (u : WrittenTerm) (k : ℕ) → AllByRecursion (λ l. slice_cmp nat_cmp key l ≡ Less) (written_keys ts) → k < length ts → slice_index_or ts k u ≡ u → u.key ≡ key → ⊥
unfolding IsStrictlySortedBy
apart key [] u k h below is same = absurd (omega arith)
apart key (v ∷ vs) u zero h below is same =
    let here : v.key ≡ key = ap (λ (t : WrittenTerm). t.key) is ∙ same in
    let less : slice_cmp nat_cmp key key ≡ Less = rw here at h.0 in
    let turned : Less ≡ Greater = rw less at (nat_list_cmp_total.antisymm key key) in
    absurd (cc)
apart key (v ∷ vs) u (suc k) h below is same = apart key vs u k h.1 (omega arith) is same

one_term : (ts : List WrittenTerm) (t u : WrittenTerm) (j k : ℕ) → AreAscending (written_keys ts) → (j < length ts) × (slice_index_or ts j t ≡ t) → (k < length ts) × (slice_index_or ts k u ≡ u) → t.key ≡ u.key → t ≡ u
unfolding IsStrictlySortedBy
one_term [] t u j k h a b same = absurd (omega (arith, a.0))
one_term (v ∷ vs) t u zero zero h a b same = sym a.1 ∙ b.1
one_term (v ∷ vs) t u zero (suc k) h a b same = absurd (apart v.key vs u k h.0 (omega (arith, b.0)) b.1 (sym same ∙ ap (λ (w : WrittenTerm). w.key) (sym a.1)))
one_term (v ∷ vs) t u (suc j) zero h a b same = absurd (apart v.key vs t j h.0 (omega (arith, a.0)) a.1 (same ∙ ap (λ (w : WrittenTerm). w.key) (sym b.1)))
one_term (v ∷ vs) t u (suc j) (suc k) h a b same = one_term vs t u j k h.1 (omega (arith, a.0), a.1) (omega (arith, b.0), b.1) same

has_its_key : (ts : List WrittenTerm) (t : WrittenTerm) (k : ℕ) → k < length ts → slice_index_or ts k t ≡ t → has_key t.key ts ≡ true
has_its_key [] t k below is = absurd (omega arith)
has_its_key (v ∷ vs) t zero below is = let same : bytes_eq t.key v.key ≡ true = (bytes_decides t.key v.key).1 (ap (λ (w : WrittenTerm). w.key) (sym is)) in rw same refl
has_its_key (v ∷ vs) t (suc k) below is = rw (has_its_key vs t k (omega arith) is) (or-true (bytes_eq t.key v.key))

held_under : (mode : IndexRecordOption) (entries : List TermEntry) (postings positions : List ℕ) (ts : List WrittenTerm) (t : WrittenTerm) (o : Option TermInfo) → AreAscending (written_keys ts) → Contains ts t
    → info_under t.key entries ≡ o → MatchOption o (has_key t.key ts ≡ false) (HoldsKey mode postings positions ts t.key) → KeepsTerm mode entries postings positions t
held_under mode entries postings positions ts t None ascending there is none = let has = has_its_key ts t there.0 there.1 there.2 in absurd (cc)
held_under mode entries postings positions ts t (Some info) ascending there is h =
    let same : h.term ≡ t = one_term ts h.term t h.written.0 there.0 ascending (h.written.1, h.written.2) (there.1, there.2) h.key_is in
    record { info = info; found = is; held = rw same at h.held }

pub holds_each_term : HoldsEachTerm
holds_each_term mode tokens bodies ts h t there = held_under mode h.entries h.postings_body bodies.positions ts t (info_under t.key h.entries) h.ascending there refl (h.exact t.key)

joined_postings : (mode : IndexRecordOption) (a p : ℕ) (ts : List WrittenTerm) (k : ℕ) → suc k < length (infos_from mode a p ts)
    → (info_in (infos_from mode a p ts) (suc k)).postings_range.start ≡ (info_in (infos_from mode a p ts) k).postings_range.end
joined_postings mode a p [] k below = absurd (omega arith)
joined_postings mode a p (t ∷ []) k below = absurd (omega arith)
joined_postings mode a p (t ∷ u ∷ us) zero below = refl
joined_postings mode a p (t ∷ u ∷ us) (suc k) below = joined_postings mode (a + length (postings_bytes t)) (p + length (positions_bytes mode t.deltas)) (u ∷ us) k (omega arith)

joined_positions : (mode : IndexRecordOption) (a p : ℕ) (ts : List WrittenTerm) (k : ℕ) → suc k < length (infos_from mode a p ts)
    → (info_in (infos_from mode a p ts) (suc k)).positions_range.start ≡ (info_in (infos_from mode a p ts) k).positions_range.end
joined_positions mode a p [] k below = absurd (omega arith)
joined_positions mode a p (t ∷ []) k below = absurd (omega arith)
joined_positions mode a p (t ∷ u ∷ us) zero below = refl
joined_positions mode a p (t ∷ u ∷ us) (suc k) below = joined_positions mode (a + length (postings_bytes t)) (p + length (positions_bytes mode t.deltas)) (u ∷ us) k (omega arith)

-- what is kept of short terms fits
fitting : (mode : IndexRecordOption) (a p : ℕ) (ts : List WrittenTerm) (k : ℕ) → AllByRecursion (IsShort mode) ts → AllByRecursion (λ (t : WrittenTerm). length t.docs < 2 ^ 32) ts
    → (a + length (flat_map postings_bytes ts) < 2 ^ 56) × (p + length (positions_body mode ts) < 2 ^ 56) → k < length (infos_from mode a p ts)
    → HasLengths (info_in (infos_from mode a p ts) k) × IsInRange (info_in (infos_from mode a p ts) k)
fitting mode a p [] k short counts within below = absurd (omega arith)
fitting mode a p (t ∷ ts) zero short counts within below =
    let few = short.0.0 in
    let few_too = short.0.1 in
    let size = length-append (postings_bytes t) (flat_map postings_bytes ts) in
    let size_too = length-append (positions_bytes mode t.deltas) (positions_body mode ts) in
    let end = within.0 in
    let end_too = within.1 in
    (record { postings = omega arith; postings_short = omega arith; positions = omega arith; positions_short = omega arith }, record { doc_freq = counts.0; postings = omega arith; positions = omega arith })
fitting mode a p (t ∷ ts) (suc k) short counts within below =
    let size = length-append (postings_bytes t) (flat_map postings_bytes ts) in
    let size_too = length-append (positions_bytes mode t.deltas) (positions_body mode ts) in
    let end = within.0 in
    let end_too = within.1 in
    fitting mode (a + length (postings_bytes t)) (p + length (positions_bytes mode t.deltas)) ts k short.1 counts.1 (omega arith, omega arith) (omega arith)

are_storable : (mode : IndexRecordOption) (ts : List WrittenTerm) → AreHoldable mode ts → AreStorable (infos_from mode 0 0 ts)
are_storable mode ts h =
    let end = h.within.0 in
    let end_too = h.within.1 in
    let few = h.few in
    let fit : (k : ℕ) → k < length (infos_from mode 0 0 ts) → HasLengths (info_in (infos_from mode 0 0 ts) k) × IsInRange (info_in (infos_from mode 0 0 ts) k) = λ k below. fitting mode 0 0 ts k h.short h.counts (omega arith, omega arith) below in
    record {
      few = omega (arith, many_infos mode 0 0 ts, length-map ts (λ (t : WrittenTerm). t.key));
      bits = h.bits;
      lengths = λ k below. (fit k below).0;
      ranges = λ k below. (fit k below).1;
    }

pub holds_what_is_written : ReadsDictionaryBack → HoldsWhatIsWritten
holds_what_is_written law mode tokens ts small h =
    let read = law (written_keys ts) (infos_from mode 0 0 ts) [] (sym (many_infos mode 0 0 ts)) h.ascending h.small (are_storable mode ts h) (record { postings = joined_postings mode 0 0 ts; positions = joined_positions mode 0 0 ts }) in
    holds_terms mode tokens ts small (rw (append-nil (written_dictionary (written_keys ts) (infos_from mode 0 0 ts))) at read) h.ascending
