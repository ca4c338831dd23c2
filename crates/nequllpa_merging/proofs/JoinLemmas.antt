-- The last segments of an index, merged.
use Rattle.std.proofs.Common.{◌≡◌, ◌∙◌, ℕ, zero, suc, List, [], ◌∷◌, ◌++◌, take, drop, Result, Ok, append-nil, refl, sym, ap, subst, arith}
use Rattle.std.specs.List.{AllZip}
use Rattle.std.proofs.lemmas.List.{take-append-drop}
use Rattle.ii_alive.proofs.RankLemmas.{all_living}
use Rattle.ii_base.specs.Schema.{SchemaEntry}
use Rattle.ii_directory.specs.declared.name.Name.TheVariants.{Meta}
use Rattle.ii_directory.specs.Directory.{Files}
use Rattle.ii_store.specs.declared.faults.IndexFault.{IndexFault}
use Rattle.ii_store.specs.Index.{◌>>=◌}
use Rattle.ii_store.specs.IndexMeta.{MetaState}
use Rattle.ii_store.specs.Segments.{list_in}
use Rattle.ii_segment_store.specs.Contents.{SegmentContents, all_contents, index_contents, with_segment}
use Rattle.ii_segment_store.specs.Joins.{first_contents, last_contents}
use Rattle.ii_segment_store.proofs.JoinLaws.{splits}
use Rattle.ii_segments.specs.Segments.{Segment, index_tokens, merged, num_docs_of}
use Rattle.ii_segments.specs.SegmentLaws.{MergeKeeps}
use Rattle.ii_segments.proofs.MergeLaws.{docs_of_both}
use Rattle.nequllpa_merging.specs.HeldSegments.{HoldSegments, HoldsSegment}
use Rattle.nequllpa_merging.specs.Joins.{HoldsIndex, HoldsSameIndex}
use Rattle.nequllpa_merging.proofs.LoopLemmas.{zip_more}

-- what the last segments hold, by the list
pub last_is : (first : ℕ) (files : Files) (m : MetaState) → list_in (files Meta) ≡ Ok m → last_contents first files ≡ all_contents (drop first m.segments) files
last_is first files m listed = ap (λ (r : Result MetaState IndexFault). r >>= λ (l : MetaState). all_contents (drop first l.segments) files) listed

-- two rows, up to a place and from it on

zip_take : {A B : Type 0} (R : A → B → Type 0) (n : ℕ) (xs : List A) (ys : List B) → AllZip R xs ys → AllZip R (take n xs) (take n ys)
zip_take R zero xs ys all = tt
zip_take R (suc n) [] [] all = tt
zip_take R (suc n) [] (y ∷ ys) all = absurd all
zip_take R (suc n) (x ∷ xs) [] all = absurd all
zip_take R (suc n) (x ∷ xs) (y ∷ ys) all = (all.0, zip_take R n xs ys all.1)

zip_drop : {A B : Type 0} (R : A → B → Type 0) (n : ℕ) (xs : List A) (ys : List B) → AllZip R xs ys → AllZip R (drop n xs) (drop n ys)
zip_drop R zero xs ys all = all
zip_drop R (suc n) [] [] all = tt
zip_drop R (suc n) [] (y ∷ ys) all = absurd all
zip_drop R (suc n) (x ∷ xs) [] all = absurd all
zip_drop R (suc n) (x ∷ xs) (y ∷ ys) all = zip_drop R n xs ys all.1

-- with the last segments in one
joined_docs : (first : ℕ) (ss : List Segment) → num_docs_of (take first ss ++ merged (drop first ss) ∷ []) ≡ num_docs_of ss
joined_docs first ss =
    let front = docs_of_both (take first ss) (merged (drop first ss) ∷ []) in
    let one = all_living (num_docs_of (drop first ss)) in
    let whole = docs_of_both (take first ss) (drop first ss) in
    let same = ap num_docs_of (take-append-drop first ss) in
    omega (arith, front, one, whole, same)

joined_tokens : MergeKeeps → (first : ℕ) (ss : List Segment) → index_tokens (take first ss ++ merged (drop first ss) ∷ []) ≡ index_tokens ss
joined_tokens keeps first ss =
    keeps (take first ss) (drop first ss) []
    ∙ ap (λ (us : List Segment). index_tokens (take first ss ++ us)) (append-nil (drop first ss)) ∙ ap index_tokens (take-append-drop first ss)

-- What is read of an index of segments: its last ones.
pub last_held : (entries : List SchemaEntry) (first : ℕ) (files : Files) (m : MetaState) (ss : List Segment) (last : List SegmentContents) → list_in (files Meta) ≡ Ok m → all_contents (drop first m.segments) files ≡ Ok last → HoldsIndex entries files ss
    → HoldSegments entries last (drop first ss)
last_held entries first files m ss last listed read h =
    let split = splits first files m h.contents listed h.read in
    subst (λ (cs : List SegmentContents). HoldSegments entries cs (drop first ss)) (same (sym split.from ∙ read)) (zip_drop (HoldsSegment entries) first h.contents.segments ss h.hold)
  where
    same : {xs ys : List SegmentContents} → ◌≡◌ {A = Result (List SegmentContents) IndexFault} (Ok xs) (Ok ys) → xs ≡ ys
    same e = cc

-- one segment in the place of the last ones
pub joined_same : MergeKeeps → (entries : List SchemaEntry) (first : ℕ) (old new : Files) (m : MetaState) (ss : List Segment) (f : SegmentContents) → list_in (old Meta) ≡ Ok m → HoldsIndex entries old ss → HoldsSegment entries f (merged (drop first ss))
    → index_contents new ≡ with_segment f (first_contents first old) → HoldsSameIndex entries new ss
joined_same keeps entries first old new m ss f listed h holds written =
    let split = splits first old m h.contents listed h.read in
    record {
      segments = take first ss ++ merged (drop first ss) ∷ [];
      holds = record {
        contents = record { schema = h.contents.schema; segments = take first h.contents.segments ++ f ∷ [] };
        read = written ∙ ap (with_segment f) split.before;
        hold = zip_more (HoldsSegment entries) (take first h.contents.segments) (take first ss) f (merged (drop first ss)) (zip_take (HoldsSegment entries) first h.contents.segments ss h.hold) holds;
      };
      tokens = joined_tokens keeps first ss;
      num_docs = joined_docs first ss;
    }

-- what the files of an index hold was not changed
pub kept_same : (entries : List SchemaEntry) (old new : Files) (ss : List Segment) → index_contents new ≡ index_contents old → HoldsIndex entries old ss → HoldsSameIndex entries new ss
kept_same entries old new ss same h = record {
  segments = ss;
  holds = record { contents = h.contents; read = same ∙ h.read; hold = h.hold };
  tokens = refl;
  num_docs = refl;
}
