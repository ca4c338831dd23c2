-- What an index holds after documents were deleted and others were added.
use Rattle.std.proofs.Common.{◌≡◌, ◌∙◌, ℕ, ◌+◌, ◌-◌, ◌<◌, ◌≤◌, ◌&&◌, ◌||◌, Bool, true, false, List, [], ◌∷◌, ◌++◌, Result, Ok, ap, append-nil, append_assoc, arith, get_or, inl, inr, length, map, nat_lt, not, refl, subst, sym}
use Rattle.std.specs.Prelude.{◌⊎◌, replicate}
use Rattle.std.specs.List.{AllByRecursion, AllZip, range_with_len}
use Rattle.std.proofs.lemmas.Bool.{lt-ltb, ltb-false, ltb-true}
use Rattle.std.proofs.lemmas.List.{ext_get_or, get_or-replicate, length-replicate, take-replicate}
use Rattle.std.proofs.lemmas.List.FromFn.{get_or-map-range_with_len, length-map-range_with_len}
use Rattle.ii_alive.specs.Alive.{num_living, rank}
use Rattle.ii_alive.proofs.RankLemmas.{all_living, rank_below}
use Rattle.ii_base.specs.Schema.{SchemaEntry}
use Rattle.ii_definitions.specs.Postings.{is_at}
use Rattle.ii_definitions.specs.Tokens.{IndexToken}
use Rattle.ii_directory.specs.Directory.{Files}
use Rattle.ii_index.specs.Deletes.{AreDeletedOf, ArePendingDeleted, DeleteState, HoldsIndexOfSegment, committed, has_term, is_among, is_deleted, is_reached}
use Rattle.ii_index.specs.Pending.{AreWrittenSegments, IsWrittenSegment, with_segments}
use Rattle.ii_index.specs.Segments.{HaveTokens, HoldsIndexOf, with_tokens}
use Rattle.ii_index.specs.declared.deletes.Scope.TheVariants.{Committed, Pending}
use Rattle.ii_index.proofs.DeleteLaws.{docs_left, kept_before, marked, marked_segments, tokens_left, without_marked}
use Rattle.ii_index.proofs.DeleteLemmas.{holds_left}
use Rattle.ii_index.proofs.IndexLemmas.{same_holds}
use Rattle.ii_index.proofs.PendingLemmas.{have_both, without_both, zip_both, zip_length}
use Rattle.ii_segment_search.proofs.LocalLaws.{any_local}
use Rattle.ii_segments.proofs.MergeLaws.{docs_of_both}
use Rattle.ii_segments.proofs.CountLaws.{living_within}
use Rattle.ii_segment_store.specs.Commits.{HoldsOldOr}
use Rattle.ii_segment_store.specs.Changes.{index_without, segments_without, without}
use Rattle.ii_segment_store.specs.Contents.{IndexContents, SegmentContents, index_contents}
use Rattle.ii_segments.specs.Segments.{Segment, index_tokens, is_living, num_docs_of}
use Rattle.ii_segments.proofs.DocumentLaws.{shift_none}
use Rattle.ii_segments.proofs.MergeLaws.{all_alive, below}
use Rattle.ii_store.specs.declared.faults.IndexFault.{IndexFault}
use Rattle.nequllpa_merging.specs.HeldSegments.{HoldSegments, HoldsSegment}

-- ---- a delete reaches a document in its segment as it does in the index
module _ (before after : List Segment) (s : Segment) (doc : ℕ) (lives : is_living s.alive doc ≡ true) where
  abbrev all : List IndexToken
  all = index_tokens (before ++ s ∷ after)

  abbrev number : ℕ
  number = num_docs_of before + rank s.alive doc

  has_local : (d : DeleteState) → has_term d.term all number ≡ has_term d.term s.tokens doc
  has_local d = any_local (λ b t. b && is_at d.term.field d.term.value t) (λ t. refl) (λ b t n. refl) before after s doc lives

  pub reached_committed : (n : ℕ) (deletes : List DeleteState) → number < n → is_deleted deletes n all number ≡ is_reached Committed deletes s.tokens doc
  reached_committed n [] small = refl
  reached_committed n (d ∷ ds) small =
      let low : nat_lt number (n + d.num_pending) ≡ true = lt-ltb number (n + d.num_pending) (omega (arith, small)) in
      ap (λ (b : Bool). (b && has_term d.term all number) || is_deleted ds n all number) low
      ∙ ap (λ (b : Bool). b || is_deleted ds n all number) (has_local d)
      ∙ ap (λ (b : Bool). has_term d.term s.tokens doc || b) (reached_committed n ds small)

  pub reached_pending : (n base : ℕ) (deletes : List DeleteState) → number ≡ n + base + doc → is_deleted deletes n all number ≡ is_reached (Pending base) deletes s.tokens doc
  reached_pending n base [] same = refl
  reached_pending n base (d ∷ ds) same =
      ap (λ (b : Bool). (b && has_term d.term all number) || is_deleted ds n all number) (low (nat_lt doc (d.num_pending - base)) refl)
      ∙ ap (λ (b : Bool). (nat_lt doc (d.num_pending - base) && b) || is_deleted ds n all number) (has_local d)
      ∙ ap (λ (b : Bool). (nat_lt doc (d.num_pending - base) && has_term d.term s.tokens doc) || b) (reached_pending n base ds same)
    where
      low : (b : Bool) → nat_lt doc (d.num_pending - base) ≡ b → nat_lt number (n + d.num_pending) ≡ nat_lt doc (d.num_pending - base)
      low true is = lt-ltb number (n + d.num_pending) (omega (arith, same, ltb-true doc (d.num_pending - base) is)) ∙ sym is
      low false is = not_below (omega (arith, same, ltb-false doc (d.num_pending - base) is)) ∙ sym is
        where
          not_below : n + d.num_pending ≤ number → nat_lt number (n + d.num_pending) ≡ false
          not_below high = by (nat_lt number (n + d.num_pending)) refl
            where
              by : (b : Bool) → nat_lt number (n + d.num_pending) ≡ b → nat_lt number (n + d.num_pending) ≡ false
              by true lower = absurd (omega (arith, high, ltb-true number (n + d.num_pending) lower))
              by false higher = higher

-- ---- the committed segments
-- the documents that an index keeps, which has n committed documents and all these tokens
abbrev pub keeps : List DeleteState → ℕ → List IndexToken → ℕ → Bool
keeps deletes n ts doc = not (is_deleted deletes n ts doc)

module _ (entries : List SchemaEntry) (deletes : List DeleteState) (n : ℕ) (ts : List IndexToken) (after : List Segment) where
  pub hold_left : (before : List Segment) (cs : List SegmentContents) (deleted : List (List ℕ)) (ss : List Segment) → ts ≡ index_tokens (before ++ (ss ++ after)) → num_docs_of before + num_docs_of ss ≤ n
      → HoldSegments entries cs ss → AllZip (AreDeletedOf entries deletes) cs deleted → HoldSegments entries (segments_without deleted cs) (marked_segments (keeps deletes n ts) (num_docs_of before) ss)
  hold_left before [] deleted [] is within hold each = tt
  hold_left before [] deleted (s ∷ ss) is within hold each = absurd hold
  hold_left before (c ∷ cs) deleted [] is within hold each = absurd hold
  hold_left before (c ∷ cs) [] (s ∷ ss) is within hold each = absurd each
  hold_left before (c ∷ cs) (docs ∷ deleted) (s ∷ ss) is within hold each =
      let base = num_docs_of before in
      let own : HoldsSegment entries c s = hold.0 in
      let next : num_docs_of (before ++ s ∷ []) ≡ base + num_living s.alive = omega (arith, docs_of_both before (s ∷ [])) in
      let moved : ts ≡ index_tokens ((before ++ s ∷ []) ++ (ss ++ after)) = is ∙ ap index_tokens (sym (append_assoc before (s ∷ []) (ss ++ after))) in (
        subst (λ (alive : List Bool). HoldsSegment entries (record c { alive = without docs c.alive }) (record { alive = alive; tokens = s.tokens })) flags (holds_left entries docs c s each.0.counted own),
        subst (λ (m : ℕ). HoldSegments entries (segments_without deleted cs) (marked_segments (keeps deletes n ts) m ss)) next
            (hold_left (before ++ s ∷ []) cs deleted ss moved (omega (arith, next, within)) hold.1 each.1),
      )
    where
      flags : without docs s.alive ≡ marked (keeps deletes n ts) (num_docs_of before) s.alive
      flags = without_marked (keeps deletes n ts) (num_docs_of before) docs s.alive agree
        where
          agree : (doc : ℕ) → is_living s.alive doc ≡ true → not (is_among docs doc) ≡ keeps deletes n ts (num_docs_of before + rank s.alive doc)
          agree doc lives =
              let number = num_docs_of before + rank s.alive doc in
              let small = rank_below s.alive doc lives in
              ap not (each.0.reached s hold.0 doc
              ∙ sym (reached_committed before (ss ++ after) s doc lives n deletes (omega (arith, small, within)))
              ∙ ap (λ (us : List IndexToken). is_deleted deletes n us number) (sym is))

pub marked_append : (keep : ℕ → Bool) (base : ℕ) (ss us : List Segment) → marked_segments keep base (ss ++ us) ≡ marked_segments keep base ss ++ marked_segments keep (base + num_docs_of ss) us
marked_append keep base [] us = ap (λ (m : ℕ). marked_segments keep m us) (omega arith)
marked_append keep base (s ∷ ss) us =
    let after = base + num_living s.alive in
    let same : after + num_docs_of ss ≡ base + (num_living s.alive + num_docs_of ss) = omega arith in
    ap (λ (l : List Segment). (record { alive = marked keep base s.alive; tokens = s.tokens }) ∷ l)
    (marked_append keep after ss us ∙ ap (λ (m : ℕ). marked_segments keep after ss ++ marked_segments keep m us) same)

-- ---- the segments that were written
module _ (entries : List SchemaEntry) (deletes : List DeleteState) (n : ℕ) (ts : List IndexToken) where
  -- a document's rank in a segment whose documents are all alive
  own_rank : (alive : List Bool) (doc : ℕ) → alive ≡ replicate (length alive) true → doc < length alive → rank alive doc ≡ doc
  own_rank alive doc all inside = ap (λ (flags : List Bool). rank flags doc) all ∙ ap num_living (take-replicate doc (length alive) true (omega (arith, inside))) ∙ all_living doc

  pub hold_pending : (before : List Segment) (base : ℕ) (cs : List SegmentContents) (deleted : List (List ℕ)) (ss : List Segment) → ts ≡ index_tokens (before ++ ss) → num_docs_of before ≡ n + base → AreWrittenSegments entries cs ss → ArePendingDeleted entries deletes base cs deleted
      → HoldSegments entries (segments_without deleted cs) (marked_segments (keeps deletes n ts) (num_docs_of before) ss)
  hold_pending before base [] [] [] is number written each = tt
  hold_pending before base [] [] (s ∷ ss) is number written each = absurd written
  hold_pending before base [] (docs ∷ deleted) ss is number written each = absurd each
  hold_pending before base (c ∷ cs) deleted [] is number written each = absurd written
  hold_pending before base (c ∷ cs) [] (s ∷ ss) is number written each = absurd each
  hold_pending before base (c ∷ cs) (docs ∷ deleted) (s ∷ ss) is number written each =
      let own : IsWrittenSegment entries c s = written.0 in
      let living : num_living s.alive ≡ length s.alive = ap num_living own.alive ∙ all_living (length s.alive) in
      let next : num_docs_of (before ++ s ∷ []) ≡ num_docs_of before + num_living s.alive = omega (arith, docs_of_both before (s ∷ [])) in
      let moved : ts ≡ index_tokens ((before ++ s ∷ []) ++ ss) = is ∙ ap index_tokens (sym (append_assoc before (s ∷ []) ss)) in
      let after : num_docs_of (before ++ s ∷ []) ≡ n + (base + length c.alive) = omega (arith, next, number, living, ap length own.holds.alive) in (
        subst (λ (alive : List Bool). HoldsSegment entries (record c { alive = without docs c.alive }) (record { alive = alive; tokens = s.tokens })) flags (holds_left entries docs c s (inr own.counted) own.holds),
        subst (λ (m : ℕ). HoldSegments entries (segments_without deleted cs) (marked_segments (keeps deletes n ts) m ss)) next
            (hold_pending (before ++ s ∷ []) (base + length c.alive) cs deleted ss moved after written.1 each.1),
      )
    where
      flags : without docs s.alive ≡ marked (keeps deletes n ts) (num_docs_of before) s.alive
      flags = without_marked (keeps deletes n ts) (num_docs_of before) docs s.alive agree
        where
          agree : (doc : ℕ) → is_living s.alive doc ≡ true → not (is_among docs doc) ≡ keeps deletes n ts (num_docs_of before + rank s.alive doc)
          agree doc lives =
              let place = num_docs_of before + rank s.alive doc in
              let same : place ≡ n + base + doc = omega (arith, number, own_rank s.alive doc written.0.alive (living_within s.alive doc lives)) in
              ap not (each.0 s written.0.holds doc
              ∙ sym (reached_pending before ss s doc lives n base deletes same)
              ∙ ap (λ (us : List IndexToken). is_deleted deletes n us place) (sym is))

-- ---- an index after a commit
-- Segments have as many documents as one segment, of the same tokens.
pub record AreAs (s : Segment) (us : List Segment) : Type 0 where
  pub num_docs : num_docs_of us ≡ num_docs_of (s ∷ [])
  pub tokens : index_tokens us ≡ index_tokens (s ∷ [])

-- what is left of an index is what is left of its segments
left_as : (keep : ℕ → Bool) (all : List Segment) → AreAs (record { alive = map keep (range_with_len 0 (num_docs_of all)); tokens = index_tokens all }) (marked_segments keep 0 all)
left_as keep all = record {
  num_docs =
      let start : 0 + num_docs_of all ≡ num_docs_of all = omega arith in
      omega (arith, docs_left keep 0 all, ap (kept_before keep) start);
  tokens = tokens_left keep (num_docs_of all) 0 all (omega arith) ∙ sym (append-nil _);
}

module _ (entries : List SchemaEntry) (deletes : List DeleteState) (n : ℕ) (ts : List IndexToken) (k : ℕ) (us : List IndexToken) (old : Files) (c : IndexContents) (added : List SegmentContents) (vs : List Segment) (gone pending : List (List ℕ)) where
  -- documents were deleted, and segments added that were written
  pub changed : (new : Files) → index_contents old ≡ Ok c → AllZip (AreDeletedOf entries deletes) c.segments gone → AreWrittenSegments entries added vs → HaveTokens k us vs → ArePendingDeleted entries deletes 0 added pending
      → index_contents new ≡ index_without (gone ++ pending) (with_segments added (Ok c)) → HoldsIndexOf entries old n ts → HoldsIndexOfSegment entries new (committed deletes n ts k us)
  changed new is each written have reached result h =
      let ss = h.segments in
      let all = ss ++ vs in
      let count = num_docs_of ss in
      let tokens = index_tokens all in
      let keep = keeps deletes count tokens in
      let both = have_both n k ts us ss vs h.have have in
      let held : HoldSegments entries c.segments ss = subst (λ (x : IndexContents). HoldSegments entries x.segments ss) (sym (ok_same c h.holds.contents (sym is ∙ h.holds.read))) h.holds.hold in
      let start : 0 + count ≡ count = omega arith in
      let first = hold_left entries deletes count tokens vs [] c.segments gone ss refl (omega arith) held each in
      let last = hold_pending entries deletes count tokens ss 0 added pending vs refl (omega arith) written reached in
      let kept : HoldSegments entries (segments_without (gone ++ pending) (c.segments ++ added)) (marked_segments keep 0 all) =
      subst (λ (xs : List SegmentContents). HoldSegments entries xs (marked_segments keep 0 all)) (sym (without_both gone pending c.segments added (zip_length (AreDeletedOf entries deletes) c.segments gone each)))
      (subst (HoldSegments entries (segments_without gone c.segments ++ segments_without pending added)) (sym (marked_append keep 0 ss vs ∙ ap (λ (m : ℕ). marked_segments keep 0 ss ++ marked_segments keep m vs) start))
      (zip_both (HoldsSegment entries) (segments_without gone c.segments) (marked_segments keep 0 ss) (segments_without pending added) (marked_segments keep count vs) first last)) in
      let alike = left_as keep all in
      let t : Segment = record { alive = map keep (range_with_len 0 (num_docs_of all)); tokens = tokens } in
      let t_is : t ≡ committed deletes n ts k us =
      ap (λ (m : ℕ). record { alive = map (keeps deletes m tokens) (range_with_len 0 (num_docs_of all)); tokens = tokens }) h.have.num_docs
      ∙ ap (λ (m : ℕ). record { alive = map (keeps deletes n tokens) (range_with_len 0 m); tokens = tokens }) both.num_docs
      ∙ ap (λ (xs : List IndexToken). record { alive = map (keeps deletes n xs) (range_with_len 0 (n + k)); tokens = xs }) both.tokens in
      subst (HoldsIndexOfSegment entries new) t_is
      (record {
        segments = marked_segments keep 0 all;
        holds = record { contents = record { schema = c.schema; segments = segments_without (gone ++ pending) (c.segments ++ added) }; read = result; hold = kept };
        have = record { num_docs = alike.num_docs; tokens = alike.tokens };
      })
    where
      ok_same : (a b : IndexContents) → ◌≡◌ {A = Result IndexContents IndexFault} (Ok a) (Ok b) → a ≡ b
      ok_same a b same = cc

  -- all of this was done, or nothing
  pub changed_or_not : (new : Files) → index_contents old ≡ Ok c → AllZip (AreDeletedOf entries deletes) c.segments gone → AreWrittenSegments entries added vs → HaveTokens k us vs → ArePendingDeleted entries deletes 0 added pending
      → HoldsOldOr (index_without (gone ++ pending) (with_segments added (Ok c))) old new → HoldsIndexOf entries old n ts → HoldsIndexOf entries new n ts ⊎ HoldsIndexOfSegment entries new (committed deletes n ts k us)
  changed_or_not new is each written have reached (inl same) h = inl (same_holds entries old new n ts same h)
  changed_or_not new is each written have reached (inr result) h = inr (changed new is each written have reached result h)

-- ---- without deletes
all_true : (n : ℕ) → map (λ (doc : ℕ). true) (range_with_len 0 n) ≡ replicate n true
all_true n = ext_get_or false (map (λ (doc : ℕ). true) (range_with_len 0 n)) (replicate n true) (many ∙ sym (length-replicate n true)) at
  where
    many : length (map (λ (doc : ℕ). true) (range_with_len 0 n)) ≡ n
    many = length-map-range_with_len (λ (doc : ℕ). true) 0 n

    at : (doc : ℕ) → doc < length (map (λ (doc : ℕ). true) (range_with_len 0 n)) → get_or (map (λ (doc : ℕ). true) (range_with_len 0 n)) doc false ≡ get_or (replicate n true) doc false
    at doc inside =
        let small : doc < n = omega (arith, inside, many) in
        get_or-map-range_with_len (λ (doc : ℕ). true) 0 n doc doc false small (omega arith) ∙ sym (get_or-replicate n doc true false small)

-- without deletes all documents are kept
pub nothing_deleted : (entries : List SchemaEntry) (n : ℕ) (ts : List IndexToken) (k : ℕ) (us : List IndexToken) (files : Files) → HoldsIndexOf entries files (n + k) (with_tokens n ts us) → HoldsIndexOfSegment entries files (committed [] n ts k us)
nothing_deleted entries n ts k us files h =
    let count = n + k in
    let tokens = with_tokens n ts us in
    let low : AllByRecursion (λ (t : IndexToken). t.doc < count) tokens = subst (AllByRecursion (λ (t : IndexToken). t.doc < count)) h.have.tokens (below 0 count h.segments (omega (arith, h.have.num_docs))) in
    subst (λ (alive : List Bool). HoldsIndexOfSegment entries files (record { alive = alive; tokens = tokens })) (sym (all_true count))
    (record {
      segments = h.segments;
      holds = h.holds;
      have = record {
        num_docs = h.have.num_docs ∙ omega (arith, all_living count);
        tokens = h.have.tokens ∙ sym (append-nil _ ∙ all_alive 0 count tokens low ∙ shift_none tokens);
      };
    })

-- the same, where a list of deletes is empty
pub nothing_deleted_of : (entries : List SchemaEntry) (n : ℕ) (ts : List IndexToken) (k : ℕ) (us : List IndexToken) (files : Files) (deletes : List DeleteState) → deletes ≡ [] → HoldsIndexOf entries files (n + k) (with_tokens n ts us) → HoldsIndexOfSegment entries files (committed deletes n ts k us)
nothing_deleted_of entries n ts k us files deletes none h = subst (λ (ds : List DeleteState). HoldsIndexOfSegment entries files (committed ds n ts k us)) (sym none) (nothing_deleted entries n ts k us files h)

pub nothing_deleted_or : (entries : List SchemaEntry) (n : ℕ) (ts : List IndexToken) (k : ℕ) (us : List IndexToken) (files : Files) (deletes : List DeleteState) → deletes ≡ [] → HoldsIndexOf entries files n ts ⊎ HoldsIndexOf entries files (n + k) (with_tokens n ts us)
    → HoldsIndexOf entries files n ts ⊎ HoldsIndexOfSegment entries files (committed deletes n ts k us)
nothing_deleted_or entries n ts k us files deletes none (inl same) = inl same
nothing_deleted_or entries n ts k us files deletes none (inr h) = inr (nothing_deleted_of entries n ts k us files deletes none h)
