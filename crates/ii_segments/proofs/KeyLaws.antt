-- The postings of a key in an index of segments.
use Rattle.std.proofs.Common.{◌≡◌, ℕ, ◌+◌, ◌<◌, ◌≢◌, ◌==◌, if◌then◌else◌, Bool, true, false, List, [], ◌∷◌, ◌++◌, map, nat_eq, refl, sym, ap, ◌∙◌, arith, bytes_eq}
use Rattle.std.specs.Prelude.{filter}
use Rattle.std.specs.List.{AllByRecursion}
use Rattle.std.proofs.lemmas.Bool.{and_parts, eq-eqb, eqb-true, ne_eqb, eqb-false}
use Rattle.std.proofs.lemmas.List.{map-append}
use Rattle.std.proofs.lemmas.List.Elements.{filter-append}
use Rattle.std.proofs.lemmas.Slice.Eq.{bytes_eq-Decides}
use Rattle.ii_base.specs.declared.schema.index_record_option.IndexRecordOption.{IndexRecordOption}
use Rattle.ii_base.specs.declared.schema.index_record_option.IndexRecordOption.TheVariants.{Basic}
use Rattle.ii_base.specs.Entries.{Entry}
use Rattle.ii_base.specs.Options.{downgrade}
use Rattle.ii_base.specs.Schema.{SchemaEntry}
use Rattle.ii_alive.specs.Alive.{num_living, rank}
use Rattle.ii_alive.proofs.RankLemmas.{rank_strict}
use Rattle.ii_definitions.specs.Cut.{cut_entry}
use Rattle.ii_definitions.specs.Postings.{entry_of, grouped, is_at, key_postings, postings_from, tokens_at, with_token}
use Rattle.ii_definitions.specs.Tokens.{IndexToken}
use Rattle.ii_segments.specs.SegmentLaws.{KeysOfSegments}
use Rattle.ii_segments.specs.Segments.{AreSegmentTokens, Segment, at_rank, entry_at_rank, index_tokens, is_living, is_key_of_text_in, living_entries, living_tokens, postings_from_segments, tokens_from}
use Rattle.ii_segments.proofs.MergedLaws.{IsTyped, all_ascend, index_typed}
use Rattle.ii_segments.proofs.MergeLaws.{living_below, of_living}
use Rattle.ii_segments.proofs.OrderLemmas.{AllAscend, Ascend, EntriesAscend, filter_ascends, grouped_ascend, lower_entries, tokens_ascend}

-- ---- the entries of living documents
abbrev entry_lives : List Bool → Entry → Bool
entry_lives alive e = is_living alive e.doc

module _ (base : ℕ) (alive : List Bool) where
  abbrev living : List Entry → List Entry
  living es = living_entries base alive es

  -- entries of later documents are apart from a token of a living document
  first_apart : (t : IndexToken) → of_living alive t ≡ true → (es : List Entry) → EntriesAscend (t.doc + 1) es → with_token (at_rank base alive t) (living es) ≡ entry_of (at_rank base alive t) ∷ living es
  first_apart t lives [] ascend = refl
  first_apart t lives (e ∷ es) ascend = by (entry_lives alive e) refl (first_apart t lives es (lower_entries (t.doc + 1) e.doc es ascend.0 ascend.1))
    where
      by : (b : Bool) → entry_lives alive e ≡ b → with_token (at_rank base alive t) (living es) ≡ entry_of (at_rank base alive t) ∷ living es
          → with_token (at_rank base alive t) (living (e ∷ es)) ≡ entry_of (at_rank base alive t) ∷ living (e ∷ es)
      by true here others =
          let later : rank alive t.doc < rank alive e.doc = rank_strict alive t.doc e.doc lives (omega (arith, ascend.0)) in
          let apart : nat_eq (base + rank alive e.doc) (base + rank alive t.doc) ≡ false = ne_eqb (base + rank alive e.doc) (base + rank alive t.doc) (λ same. omega (arith, later, same)) in
          rw (here, apart) refl
      by false dead others = rw dead others

  -- a token of a living document, and its entry
  with_living : (t : IndexToken) → of_living alive t ≡ true → (es : List Entry) → EntriesAscend t.doc es → with_token (at_rank base alive t) (living es) ≡ living (with_token t es)
  with_living t lives [] ascend = rw lives refl
  with_living t lives (e ∷ es) ascend = by (nat_eq e.doc t.doc) refl
    where
      by : (b : Bool) → nat_eq e.doc t.doc ≡ b → with_token (at_rank base alive t) (living (e ∷ es)) ≡ living (with_token t (e ∷ es))
      by true is =
          let same : e.doc ≡ t.doc = eqb-true e.doc t.doc is in
          let here : is_living alive e.doc ≡ true = ap (is_living alive) same ∙ lives in
          let ranks : nat_eq (base + rank alive e.doc) (base + rank alive t.doc) ≡ true = eq-eqb (base + rank alive e.doc) (base + rank alive t.doc) (ap (λ (d : ℕ). base + rank alive d) same) in
          rw (is, here, ranks) refl
      by false other =
          let differ : e.doc ≢ t.doc = eqb-false e.doc t.doc other in
          let apart = first_apart t lives (e ∷ es) (omega (arith, ascend.0, differ), ascend.1) in
          rw (other, lives) apart

  with_dead : (t : IndexToken) → of_living alive t ≡ false → (es : List Entry) → living es ≡ living (with_token t es)
  with_dead t dead [] = rw dead refl
  with_dead t dead (e ∷ es) = by (nat_eq e.doc t.doc) refl
    where
      by : (b : Bool) → nat_eq e.doc t.doc ≡ b → living (e ∷ es) ≡ living (with_token t (e ∷ es))
      by true is =
          let here : is_living alive e.doc ≡ false = ap (is_living alive) (eqb-true e.doc t.doc is) ∙ dead in
          rw (is, here) refl
      by false other = rw (other, dead) refl

  -- grouping and renumbering commute
  grouped_living : (least : ℕ) (ts : List IndexToken) → Ascend least ts → grouped (map (at_rank base alive) (filter (of_living alive) ts)) ≡ living (grouped ts)
  grouped_living least [] ascend = refl
  grouped_living least (t ∷ ts) ascend = by (of_living alive t) refl (grouped_living t.doc ts ascend.1)
    where
      by : (b : Bool) → of_living alive t ≡ b → grouped (map (at_rank base alive) (filter (of_living alive) ts)) ≡ living (grouped ts)
          → grouped (map (at_rank base alive) (filter (of_living alive) (t ∷ ts))) ≡ living (grouped (t ∷ ts))
      by true lives others = rw lives (ap (with_token (at_rank base alive t)) others ∙ with_living t lives (grouped ts) (grouped_ascend t.doc ts ascend.1))
      by false dead others = rw dead (others ∙ with_dead t dead (grouped ts))

  living_cut : (option : IndexRecordOption) (es : List Entry) → map (cut_entry option) (living es) ≡ living (map (cut_entry option) es)
  living_cut option [] = refl
  living_cut option (e ∷ es) = by (entry_lives alive e) refl (living_cut option es)
    where
      by : (b : Bool) → entry_lives alive e ≡ b → map (cut_entry option) (living es) ≡ living (map (cut_entry option) es)
          → map (cut_entry option) (living (e ∷ es)) ≡ living (map (cut_entry option) (e ∷ es))
      by true here others = rw here (ap (λ (l : List Entry). cut_entry option (entry_at_rank base alive e) ∷ l) others)
      by false dead others = rw dead others

  -- the tokens of a key among those of the living documents
  at_living : (field : ℕ) (key : List ℕ) (ts : List IndexToken)
      → tokens_at field key (map (at_rank base alive) (filter (of_living alive) ts)) ≡ map (at_rank base alive) (filter (of_living alive) (tokens_at field key ts))
  at_living field key [] = refl
  at_living field key (t ∷ ts) = by (of_living alive t) (is_at field key t) refl refl (at_living field key ts)
    where
      by : (b c : Bool) → of_living alive t ≡ b → is_at field key t ≡ c
          → tokens_at field key (map (at_rank base alive) (filter (of_living alive) ts)) ≡ map (at_rank base alive) (filter (of_living alive) (tokens_at field key ts))
          → tokens_at field key (map (at_rank base alive) (filter (of_living alive) (t ∷ ts))) ≡ map (at_rank base alive) (filter (of_living alive) (tokens_at field key (t ∷ ts)))
      by true true lives is others = rw (lives, is, lives) (ap (λ (l : List IndexToken). at_rank base alive t ∷ l) others)
      by true false lives not others = rw (lives, not) others
      by false true dead is others = rw (dead, is, dead) others
      by false false dead not others = rw (dead, not) others

-- ---- groups one after the other
with_append : (m : ℕ) (t : IndexToken) (es fs : List Entry) → t.doc < m → EntriesAscend m fs → with_token t (es ++ fs) ≡ with_token t es ++ fs
with_append m t [] [] below ascend = refl
with_append m t [] (f ∷ fs) below ascend =
    let apart : nat_eq f.doc t.doc ≡ false = ne_eqb f.doc t.doc (λ same. omega (arith, same, below, ascend.0)) in
    rw apart refl
with_append m t (e ∷ es) fs below ascend = by (nat_eq e.doc t.doc) refl
  where
    by : (b : Bool) → nat_eq e.doc t.doc ≡ b → with_token t ((e ∷ es) ++ fs) ≡ with_token t (e ∷ es) ++ fs
    by true same = rw same refl
    by false other = rw other refl

grouped_append : (m : ℕ) (xs ys : List IndexToken) → AllByRecursion (λ (t : IndexToken). t.doc < m) xs → EntriesAscend m (grouped ys) → grouped (xs ++ ys) ≡ grouped xs ++ grouped ys
grouped_append m [] ys below ascend = refl
grouped_append m (t ∷ xs) ys below ascend = ap (with_token t) (grouped_append m xs ys below.1 ascend) ∙ with_append m t (grouped xs) (grouped ys) below.0 ascend

-- the entries of segments
abbrev entries_from : ℕ → List Segment → List Entry
entries_from base [] = []
entries_from base (s ∷ ss) = living_entries base s.alive (grouped s.tokens) ++ entries_from (base + num_living s.alive) ss

grouped_from : (base : ℕ) (ss : List Segment) → AllAscend ss → grouped (tokens_from base ss) ≡ entries_from base ss
grouped_from base [] ascend = refl
grouped_from base (s ∷ ss) ascend =
    let n = num_living s.alive in
    let later = tokens_from (base + n) ss in
    grouped_append (base + n) (living_tokens base s) later (living_below base (base + n) s.alive s.tokens (omega arith)) (grouped_ascend (base + n) later (tokens_ascend (base + n) ss ascend.1))
    ∙ ap (λ (l : List Entry). l ++ grouped later) (grouped_living base s.alive 0 s.tokens ascend.0)
    ∙ ap (λ (l : List Entry). living_entries base s.alive (grouped s.tokens) ++ l) (grouped_from (base + n) ss ascend.1)

module _ (entries : List SchemaEntry) (option requested : IndexRecordOption) (field : ℕ) (key : List ℕ) where
  -- a segment with the tokens of the key alone
  abbrev of_key : Segment → Segment
  of_key s = record s { tokens = tokens_at field key s.tokens }

  key_tokens_from : (base : ℕ) (ss : List Segment) → tokens_at field key (tokens_from base ss) ≡ tokens_from base (map of_key ss)
  key_tokens_from base [] = refl
  key_tokens_from base (s ∷ ss) =
      let later = tokens_from (base + num_living s.alive) ss in
      filter-append (is_at field key) (living_tokens base s) later
      ∙ ap (λ (l : List IndexToken). l ++ tokens_at field key later) (at_living base s.alive field key s.tokens)
      ∙ ap (λ (l : List IndexToken). living_tokens base (of_key s) ++ l) (key_tokens_from (base + num_living s.alive) ss)

  key_ascends : (ss : List Segment) → AllAscend ss → AllAscend (map of_key ss)
  key_ascends [] ascend = tt
  key_ascends (s ∷ ss) ascend = (filter_ascends (is_at field key) 0 s.tokens ascend.0, key_ascends ss ascend.1)

  -- what is kept of the key
  abbrev kept : IndexRecordOption
  kept = downgrade (if is_key_of_text_in entries field key then option else Basic) requested

  typed_at : (ts : List IndexToken) → AllByRecursion (IsTyped entries) ts → AllByRecursion (λ (t : IndexToken). t.of_text ≡ is_key_of_text_in entries field key) (tokens_at field key ts)
  typed_at [] typed = tt
  typed_at (t ∷ ts) typed = by (is_at field key t) refl (typed_at ts typed.1)
    where
      by : (b : Bool) → is_at field key t ≡ b → AllByRecursion (λ (u : IndexToken). u.of_text ≡ is_key_of_text_in entries field key) (tokens_at field key ts)
          → AllByRecursion (λ (u : IndexToken). u.of_text ≡ is_key_of_text_in entries field key) (tokens_at field key (t ∷ ts))
      by true is others =
          let parts = and_parts (t.field == field) (bytes_eq t.key key) is in
          let same_field : t.field ≡ field = eqb-true t.field field parts.0 in
          let same_key : t.key ≡ key = (bytes_eq-Decides t.key key).0 parts.1 in
          rw is (typed.0 ∙ ap (λ (f : ℕ). is_key_of_text_in entries f t.key) same_field ∙ ap (is_key_of_text_in entries field) same_key, others)
      by false other others = rw other others

  -- the key's type says what is kept
  kept_postings : (ts : List IndexToken) → AllByRecursion (IsTyped entries) ts → key_postings option field key requested ts ≡ map (cut_entry kept) (grouped (tokens_at field key ts))
  kept_postings ts typed = by (tokens_at field key ts) (typed_at ts typed)
    where
      by : (us : List IndexToken) → AllByRecursion (λ (u : IndexToken). u.of_text ≡ is_key_of_text_in entries field key) us → postings_from option requested us ≡ map (cut_entry kept) (grouped us)
      by [] all = refl
      by (u ∷ us) all = ap (λ (b : Bool). map (cut_entry (downgrade (if b then option else Basic) requested)) (grouped (u ∷ us))) all.0

  cut_from : (base : ℕ) (ss : List Segment) → AllByRecursion (AreSegmentTokens entries) ss
      → map (cut_entry kept) (entries_from base (map of_key ss)) ≡ postings_from_segments option field key requested base ss
  cut_from base [] are = refl
  cut_from base (s ∷ ss) are =
      let own = living_entries base s.alive (grouped (tokens_at field key s.tokens)) in
      let later = entries_from (base + num_living s.alive) (map of_key ss) in
      map-append (cut_entry kept) own later
      ∙ ap (λ (l : List Entry). l ++ map (cut_entry kept) later)
      (living_cut base s.alive kept (grouped (tokens_at field key s.tokens)) ∙ ap (living_entries base s.alive) (sym (kept_postings s.tokens are.0.typed)))
      ∙ ap (λ (l : List Entry). living_entries base s.alive (key_postings option field key requested s.tokens) ++ l) (cut_from (base + num_living s.alive) ss are.1)

pub keys_of_segments : KeysOfSegments
keys_of_segments entries option requested field key ss are =
    kept_postings entries option requested field key (index_tokens ss) (index_typed entries ss are)
    ∙ ap (λ (ts : List IndexToken). map (cut_entry (kept entries option requested field key)) (grouped ts)) (key_tokens_from entries option requested field key 0 ss)
    ∙ ap (map (cut_entry (kept entries option requested field key)))
    (grouped_from 0 (map (of_key entries option requested field key) ss) (key_ascends entries option requested field key ss (all_ascend entries ss are)))
    ∙ cut_from entries option requested field key 0 ss are
