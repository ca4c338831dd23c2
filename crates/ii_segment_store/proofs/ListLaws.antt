-- What lists of segments hold after documents were deleted.
use Rattle.std.proofs.Common.{◌≡◌, inl, inr, ⊎_elim, ℕ, zero, suc, ◌+◌, ◌<◌, ◌≤◌, List, [], ◌∷◌, ◌++◌, length, get_or, drop, Some, Result, Ok, Err, refl, sym, ap, subst, ◌∙◌, arith, if◌then◌else◌, length-append, drop-cons}
use Rattle.std.proofs.lemmas.List.{length-map}
use Rattle.std.specs.Prelude.{map}
use Rattle.std.proofs.lemmas.Bool.{cases_lt}
use Rattle.std.proofs.lemmas.List.{drop-drop, get_or-append-add, get_or-drop, get_or-map, get_or_append_left, get_or_default}
use Rattle.std.proofs.lemmas.Option.{slice_get-get_or}
use Rattle.ii_store.specs.declared.faults.IndexFault.{IndexFault}
use Rattle.ii_store.specs.declared.faults.StoreFault.{StoreFault}
use Rattle.ii_store.specs.declared.faults.StoreFault.TheVariants as stores
use Rattle.ii_store.specs.declared.index_meta.SegmentMeta.{SegmentMeta}
use Rattle.ii_directory.specs.declared.name.Name.TheVariants.{File, Meta, Segment}
use Rattle.ii_directory.specs.declared.name.SegmentComponent.{SegmentComponent}
use Rattle.ii_directory.specs.Directory.{Elapses, Files}
use Rattle.ii_store.specs.Index.{◌>>=◌}
use Rattle.ii_store.specs.IndexMeta.{MetaState, SegmentState, segment_view}
use Rattle.ii_store.specs.Segments.{KeepsOtherFiles, MayBeReplaced, list_in}
use Rattle.ii_directory.proofs.Elapsing.{elapses_implies, elapses_then}
use Rattle.ii_segment_store.specs.Changes.{AreChanged, FailsForFlags, IsChangedTo, IsFlagged, IsFlaggedList, IsFlagsFault, KeepsButFlags, KeepsOlder, first_uncounted, index_without, is_uncounted, latest_file, latest_generation, result_without, segments_without}
use Rattle.ii_segment_store.specs.Commits.{HaveIdsBelow, HoldsOldOr}
use Rattle.ii_segment_store.specs.Contents.{IndexContents, SegmentContents, all_contents, index_contents, list_contents, segment_in, all_of}
use Rattle.ii_segment_store.proofs.ChangeLaws.{flagged_id, flagged_latest, later_keeps, older_flags, older_segment, older_then}
use Rattle.ii_segment_store.proofs.CommitLaws.{listed_contents, meta_same_contents, segment_same}

-- the greatest generation is that of no file of a segment, or more

pub latest_at : (ss : List SegmentState) (i : ℕ) (d : SegmentState) → i < length ss → latest_file (get_or ss i d).files ≤ latest_generation ss
latest_at [] i d lt = absurd (omega (arith, lt))
latest_at (s ∷ ss) zero d lt = omega arith
latest_at (s ∷ ss) (suc i) d lt = omega (arith, latest_at ss i d (omega (arith, lt)))

-- segments are changed one by one

module _ (deleted : List (List ℕ)) (latest : ℕ) (ss ts : List SegmentState) (s t : SegmentState) (old mid new : Files) (all : (place : ℕ) (d : SegmentState) → place < length ss → latest_file (get_or ss place d).files ≤ latest)
    (is : s ≡ get_or ss (length ts) s) (lt : length ts < length ss) (h : AreChanged deleted latest ss ts old mid) (step : IsChangedTo (get_or deleted (length ts) []) (latest + 1 + length ts) s t mid new) where
  s_latest : latest_file s.files ≤ latest
  s_latest = subst (λ (x : SegmentState). latest_file x.files ≤ latest) (sym is) (all (length ts) s lt)

  same_s : (place : ℕ) (d : SegmentState) → place ≡ length ts → get_or ss place d ≡ s
  same_s place d e = ap (λ (n : ℕ). get_or ss n d) e ∙ get_or_default ss (length ts) d s lt ∙ sym is

  same_t : (place : ℕ) (d : SegmentState) → place ≡ length ts → get_or (ts ++ t ∷ []) place d ≡ t
  same_t place d e = ap (λ (n : ℕ). get_or (ts ++ t ∷ []) n d) (omega (arith, e)) ∙ get_or-append-add ts (t ∷ []) 0 d

  t_latest : (place : ℕ) (d : SegmentState) → place < length ts → latest_file (get_or ts place d).files ≤ latest + length ts
  t_latest place d below =
      omega (arith, below, flagged_latest (get_or deleted place []) (latest + 1 + place) (get_or ss place d) (get_or ts place d) old (omega (arith, all place d (omega (arith, below, lt)))) (h.flagged place d below))

  each_new : (place : ℕ) (d : SegmentState) → place < length (ts ++ t ∷ []) → segment_in (get_or (ts ++ t ∷ []) place d) new ≡ result_without (get_or deleted place []) (segment_in (get_or ss place d) old)
  each_new place d within = ⊎_elim
      (λ below. ap (λ (x : SegmentState). segment_in x new) (get_or_append_left ts (t ∷ []) d place below)
      ∙ older_segment (latest + length ts) (get_or ts place d) mid new (t_latest place d below) (later_keeps (latest + length ts) (latest + 1 + length ts) mid new (omega arith) step.keeps)
      ∙ h.each place d below)
      (λ above. let e : place ≡ length ts = omega (arith, above, within, length-append ts (t ∷ [])) in
      ap (λ (x : SegmentState). segment_in x new) (same_t place d e) ∙ step.read
      ∙ ap (result_without (get_or deleted (length ts) [])) (older_segment latest s old mid s_latest h.keeps)
      ∙ sym (ap (λ (x : SegmentState). result_without (get_or deleted place []) (segment_in x old)) (same_s place d e) ∙ ap (λ (n : ℕ). result_without (get_or deleted n []) (segment_in s old)) e))
      (cases_lt place (length ts))

  flagged_old : IsFlagged (get_or deleted (length ts) []) (latest + 1 + length ts) s t old
  flagged_old = ⊎_elim (λ same. inl same) (λ new. inr (new.0, sym (older_flags latest s old mid s_latest h.keeps) ∙ new.1, new.2)) step.flagged

  flagged_new : (place : ℕ) (d : SegmentState) → place < length (ts ++ t ∷ []) → IsFlagged (get_or deleted place []) (latest + 1 + place) (get_or ss place d) (get_or (ts ++ t ∷ []) place d) old
  flagged_new place d within = ⊎_elim
      (λ below. subst (λ (x : SegmentState). IsFlagged (get_or deleted place []) (latest + 1 + place) (get_or ss place d) x old) (sym (get_or_append_left ts (t ∷ []) d place below)) (h.flagged place d below))
      (λ above. let e : place ≡ length ts = omega (arith, above, within, length-append ts (t ∷ [])) in
      subst (λ (x : SegmentState). IsFlagged (get_or deleted place []) (latest + 1 + place) x (get_or (ts ++ t ∷ []) place d) old) (sym (same_s place d e))
      (subst (λ (x : SegmentState). IsFlagged (get_or deleted place []) (latest + 1 + place) s x old) (sym (same_t place d e))
      (subst (λ (n : ℕ). IsFlagged (get_or deleted n []) (latest + 1 + n) s t old) (sym e) flagged_old)))
      (cases_lt place (length ts))

  pub changed_more : AreChanged deleted latest ss (ts ++ t ∷ []) old new
  changed_more = record {
    each = each_new;
    flagged = flagged_new;
    keeps = older_then latest old mid new h.keeps (later_keeps latest (latest + 1 + length ts) mid new (omega arith) step.keeps);
  }

pub view_at : (ss : List SegmentMeta) (i : ℕ) (s : SegmentMeta) → i < length ss → s ≡ get_or ss i s → segment_view s ≡ get_or (map segment_view ss) i (segment_view s)
view_at ss i s lt is = ap segment_view is ∙ sym (get_or-map segment_view ss i s (segment_view s) lt)

-- the next segment was changed, given its place
pub changed_next : (deleted : List (List ℕ)) (latest : ℕ) (ss ts : List SegmentState) (s t : SegmentState) (old mid new : Files) (i : ℕ) → latest ≡ latest_generation ss → length ts ≡ i → s ≡ get_or ss i s → i < length ss
    → AreChanged deleted latest ss ts old mid → IsChangedTo (get_or deleted i []) (latest + 1 + i) s t mid new → AreChanged deleted latest ss (ts ++ t ∷ []) old new
changed_next deleted latest ss ts s t old mid new i greatest many is lt h step =
    changed_more deleted latest ss ts s t old mid new (λ place d within. omega (arith, greatest, latest_at ss place d within)) (subst (λ (n : ℕ). s ≡ get_or ss n s) (sym many) is) (omega (arith, many, lt)) h
    (subst (λ (n : ℕ). IsChangedTo (get_or deleted n []) (latest + 1 + n) s t mid new) (sym many) step)

-- the generations of a segment at a place
pub latest_of : (segs : List SegmentMeta) (i : ℕ) (s : SegmentMeta) (latest : ℕ) → i < length segs → s ≡ get_or segs i s → latest ≡ latest_generation (map segment_view segs) → latest_file s.files.items ≤ latest
latest_of segs i s latest lt is greatest =
    let ss = map segment_view segs in
    let within : i < length ss = omega (arith, lt, length-map segs segment_view) in
    let at : latest_file (get_or ss i (segment_view s)).files ≤ latest = omega (arith, greatest, latest_at ss i (segment_view s) within) in
    subst (λ (x : SegmentState). latest_file x.files ≤ latest) (sym (view_at segs i s lt is)) at

-- what all changed segments hold

abbrev contents_without : List (List ℕ) → Result (List SegmentContents) IndexFault → Result (List SegmentContents) IndexFault
contents_without deleted (Ok ss) = Ok (segments_without deleted ss)
contents_without deleted (Err fault) = Err fault

first_and_others : (deleted : List (List ℕ)) (r : Result SegmentContents IndexFault) (rs : Result (List SegmentContents) IndexFault)
    → (result_without (get_or deleted 0 []) r >>= λ first. contents_without (drop 1 deleted) rs >>= λ others. Ok (first ∷ others)) ≡ contents_without deleted (r >>= λ first. rs >>= λ others. Ok (first ∷ others))
first_and_others deleted (Ok s) (Ok ss) = refl
first_and_others deleted (Ok s) (Err fault) = refl
first_and_others deleted (Err fault) rs = refl

docs_of_others : (deleted : List (List ℕ)) (place : ℕ) → get_or (drop 1 deleted) place [] ≡ get_or deleted (suc place) []
docs_of_others [] place = refl
docs_of_others (docs ∷ deleted) place = refl

contents_changed : (deleted : List (List ℕ)) (ss ts : List SegmentState) (old new : Files) → length ts ≡ length ss
    → ((place : ℕ) (d : SegmentState) → place < length ts → segment_in (get_or ts place d) new ≡ result_without (get_or deleted place []) (segment_in (get_or ss place d) old)) → all_contents ts new ≡ contents_without deleted (all_contents ss old)
unfolding all_of
contents_changed deleted [] [] old new many each = refl
contents_changed deleted [] (t ∷ ts) old new many each = absurd (omega (arith, many))
contents_changed deleted (s ∷ ss) [] old new many each = absurd (omega (arith, many))
contents_changed deleted (s ∷ ss) (t ∷ ts) old new many each =
    let others = contents_changed (drop 1 deleted) ss ts old new (omega (arith, many))
    (λ place d lt. each (suc place) d (omega (arith, lt)) ∙ ap (λ (docs : List ℕ). result_without docs (segment_in (get_or ss place d) old)) (sym (docs_of_others deleted place))) in
    rw (each 0 t (omega arith), others) (first_and_others deleted (segment_in s old) (all_contents ss old))

with_schema : (deleted : List (List ℕ)) (schema : List ℕ) (rs : Result (List SegmentContents) IndexFault)
    → (contents_without deleted rs >>= λ segments. Ok (record { schema = schema; segments = segments })) ≡ index_without deleted (rs >>= λ segments. Ok (record { schema = schema; segments = segments }))
with_schema deleted schema (Ok ss) = refl
with_schema deleted schema (Err fault) = refl

pub list_changed : (deleted : List (List ℕ)) (latest : ℕ) (m n : MetaState) (old new : Files) → n.schema ≡ m.schema → length n.segments ≡ length m.segments → AreChanged deleted latest m.segments n.segments old new → list_contents n new ≡ index_without deleted (list_contents m old)
unfolding list_contents
list_changed deleted latest m n old new schema many h =
    rw (contents_changed deleted m.segments n.segments old new many h.each, schema) (with_schema deleted m.schema (all_contents m.segments old))

-- the ids stay

ids_kept : (next : ℕ) (ss ts : List SegmentState) → length ts ≡ length ss → ((place : ℕ) (d : SegmentState) → place < length ts → (get_or ts place d).id ≡ (get_or ss place d).id) → HaveIdsBelow next ss → HaveIdsBelow next ts
ids_kept next ss [] many each below = tt
ids_kept next [] (t ∷ ts) many each below = absurd (omega (arith, many))
ids_kept next (s ∷ ss) (t ∷ ts) many each below = (
  omega (arith, each 0 t (omega arith), below.0),
  ids_kept next ss ts (omega (arith, many)) (λ place d lt. each (suc place) d (omega (arith, lt))) below.1,
)

pub flagged_below : (deleted : List (List ℕ)) (m n : MetaState) (files : Files) → IsFlaggedList deleted m n files → HaveIdsBelow m.next_segment_id m.segments → HaveIdsBelow n.next_segment_id n.segments
flagged_below deleted m n files h below =
    subst (λ (next : ℕ). HaveIdsBelow next n.segments) (sym h.next_segment_id)
    (ids_kept m.next_segment_id m.segments n.segments h.many (λ place d lt. flagged_id (get_or deleted place []) (latest_generation m.segments + 1 + place) (get_or m.segments place d) (get_or n.segments place d) files (h.segments place d lt)) below)

-- the same files of all segments

all_kept : (ss : List SegmentState) (a c : Files) → ((i : ℕ) (component : SegmentComponent) → c (Segment i component) ≡ a (Segment i component)) → all_contents ss c ≡ all_contents ss a
unfolding all_of
all_kept [] a c keeps = refl
all_kept (s ∷ ss) a c keeps = rw (segment_same s a c (keeps s.id), all_kept ss a c keeps) refl

older_all : (g : ℕ) (ss : List SegmentState) (a c : Files) → latest_generation ss ≤ g → KeepsOlder g a c → all_contents ss c ≡ all_contents ss a
unfolding all_of
older_all g [] a c le keeps = refl
older_all g (s ∷ ss) a c le keeps = rw (older_segment g s a c (omega (arith, le)) keeps, older_all g ss a c (omega (arith, le)) keeps) refl

-- what keeps all but later flags keeps the index
pub older_index : (m : MetaState) (a c : Files) → list_in (a Meta) ≡ Ok m → KeepsOlder (latest_generation m.segments) a c → index_contents c ≡ index_contents a
unfolding list_contents
older_index m a c is keeps =
    let meta : c Meta ≡ a Meta = keeps Meta (λ id g lt e. absurd cc) in
    let again : list_in (c Meta) ≡ Ok m = rw meta is in
    listed_contents m c again ∙ rw (older_all (latest_generation m.segments) m.segments a c (omega arith) keeps) refl ∙ sym (listed_contents m a is)

pub older_meta : (g : ℕ) (m : MetaState) (a c : Files) → list_in (a Meta) ≡ Ok m → KeepsOlder g a c → list_in (c Meta) ≡ Ok m
older_meta g m a c is keeps = let meta : c Meta ≡ a Meta = keeps Meta (λ id g lt e. absurd cc) in rw meta is

-- a list was put in the place of another one

pub replaced_contents : (m : MetaState) (g : ℕ) (a c : Files) → list_in (c Meta) ≡ Ok (record m { generation = g }) → KeepsOtherFiles a c → index_contents c ≡ list_contents m a
unfolding list_contents
replaced_contents m g a c is keeps =
    listed_contents (record m { generation = g }) c is ∙ rw (all_kept m.segments a c (λ i component. keeps (Segment i component) (λ e. absurd cc) (λ e. absurd cc))) refl

pub replaced_or_not : (m : MetaState) (g : ℕ) (a c : Files) → MayBeReplaced (record m { generation = g }) a c → HoldsOldOr (list_contents m a) a c
replaced_or_not m g a c may = ⊎_elim
    (λ same. inl (meta_same_contents a c same (λ slot kind. may.keeps (File slot kind) (λ e. absurd cc) (λ e. absurd cc)) (λ i component. may.keeps (Segment i component) (λ e. absurd cc) (λ e. absurd cc))))
    (λ listed. inr (replaced_contents m g a c listed may.keeps))
    may.meta

module _ {D : Type 0} (moment : D → ℕ) (left_since : D → ℕ → Files → Type 0) (seen : D → Files) (old mid new : D) where
  -- flags of a later generation were written after others, completely or in part
  pub flag_time : (latest generation : ℕ) → latest < generation → KeepsOlder latest (seen old) (seen mid) → Elapses (moment old) (moment mid) (left_since old) (left_since mid) (KeepsOlder latest (seen old))
      → Elapses (moment mid) (moment new) (left_since mid) (left_since new) (KeepsButFlags generation (seen mid)) → Elapses (moment old) (moment new) (left_since old) (left_since new) (KeepsOlder latest (seen old))
  flag_time latest generation lt keeps first second = elapses_then moment left_since old mid new (KeepsOlder latest (seen old)) (KeepsButFlags generation (seen mid)) first second
      (λ c but. older_then latest (seen old) (seen mid) c keeps (later_keeps latest generation (seen mid) c lt but))

  -- flags were written, and then a list, each completely or in part
  pub change_time : (m : MetaState) (wanted then_wanted : Result IndexContents IndexFault) → list_in (seen old Meta) ≡ Ok m → KeepsOlder (latest_generation m.segments) (seen old) (seen mid) → then_wanted ≡ wanted
      → Elapses (moment old) (moment mid) (left_since old) (left_since mid) (KeepsOlder (latest_generation m.segments) (seen old))
      → Elapses (moment mid) (moment new) (left_since mid) (left_since new) (HoldsOldOr then_wanted (seen mid))
      → Elapses (moment old) (moment new) (left_since old) (left_since new) (HoldsOldOr wanted (seen old))
  change_time m wanted then_wanted is keeps same first second =
      let begun = elapses_implies moment left_since old mid (KeepsOlder (latest_generation m.segments) (seen old)) (HoldsOldOr wanted (seen old)) first (λ c kept. inl (older_index m (seen old) c is kept)) in
      elapses_then moment left_since old mid new (HoldsOldOr wanted (seen old)) (HoldsOldOr then_wanted (seen mid)) begun second
      (λ c holds. ⊎_elim (λ before. inl (before ∙ older_index m (seen old) (seen mid) is keeps)) (λ after. inr (after ∙ same)) holds)

  -- only flags were written
  pub flags_time : (m : MetaState) (wanted : Result IndexContents IndexFault) → list_in (seen old Meta) ≡ Ok m
      → Elapses (moment old) (moment mid) (left_since old) (left_since mid) (KeepsOlder (latest_generation m.segments) (seen old)) → Elapses (moment old) (moment mid) (left_since old) (left_since mid) (HoldsOldOr wanted (seen old))
  flags_time m wanted is first = elapses_implies moment left_since old mid (KeepsOlder (latest_generation m.segments) (seen old)) (HoldsOldOr wanted (seen old)) first (λ c kept. inl (older_index m (seen old) c is kept))

-- why documents aren't deleted

pub flags_fail : (e : StoreFault) (deleted : List (List ℕ)) (ss : List SegmentState) (place : ℕ) (s : SegmentState) (files : Files) → place < length ss → s ≡ get_or ss place s → FailsForFlags e (get_or deleted place []) s files → IsFlagsFault e deleted ss files
flags_fail (stores.Directory fault) deleted ss place s files lt is fails = tt
flags_fail (stores.Index fault) deleted ss place s files lt is fails = record {
  place = place;
  segment = s;
  found = slice_get-get_or ss place s lt ∙ ap (λ (x : SegmentState). Some x) (sym is);
  some = fails.0;
  fails = fails.1;
}

pub flags_fail_old : (e : StoreFault) (docs : List ℕ) (g : ℕ) (s : SegmentState) (a c : Files) → latest_file s.files ≤ g → KeepsOlder g a c → FailsForFlags e docs s c → FailsForFlags e docs s a
flags_fail_old (stores.Directory fault) docs g s a c le keeps fails = tt
flags_fail_old (stores.Index fault) docs g s a c le keeps fails = (fails.0, sym (older_flags g s a c le keeps) ∙ fails.1)

-- segments without counts

pub uncounted_step : (deleted : List (List ℕ)) (ss : List SegmentState) (i : ℕ) (s : SegmentState) → i < length ss → s ≡ get_or ss i s
    → first_uncounted (drop i deleted) (drop i ss) ≡ (if is_uncounted (get_or deleted i []) s then Some s.id else first_uncounted (drop (i + 1) deleted) (drop (i + 1) ss))
uncounted_step deleted ss i s lt is =
    let cut : drop i ss ≡ s ∷ drop (suc i) ss = drop-cons ss i s lt ∙ ap (λ (x : SegmentState). x ∷ drop (suc i) ss) (sym is) in
    let next : suc i ≡ i + 1 = omega arith in
    let head : get_or (drop i deleted) 0 [] ≡ get_or deleted i [] = get_or-drop i deleted 0 [] ∙ ap (λ (n : ℕ). get_or deleted n []) (omega arith) in
    let tail : drop 1 (drop i deleted) ≡ drop (i + 1) deleted = drop-drop 1 i deleted ∙ ap (λ (n : ℕ). drop n deleted) (omega arith) in
    ap (first_uncounted (drop i deleted)) cut
    ∙ ap (λ (docs : List ℕ). if is_uncounted docs s then Some s.id else first_uncounted (drop 1 (drop i deleted)) (drop (suc i) ss)) head
    ∙ ap (λ (dss : List (List ℕ)). if is_uncounted (get_or deleted i []) s then Some s.id else first_uncounted dss (drop (suc i) ss)) tail
    ∙ ap (λ (n : ℕ). if is_uncounted (get_or deleted i []) s then Some s.id else first_uncounted (drop (i + 1) deleted) (drop n ss)) next
