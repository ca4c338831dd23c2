-- The first segments of an index, and the last ones.
use Rattle.std.proofs.Common.{◌≡◌, ℕ, zero, suc, List, [], ◌∷◌, take, drop, length, ◌<◌, arith, Result, Ok, Err, refl, sym, ap, subst, ◌∙◌}
use Rattle.std.proofs.lemmas.List.{drop_all, length-map}
use Rattle.std.specs.Prelude.{map}
use Rattle.ii_store.specs.declared.faults.IndexFault.{IndexFault}
use Rattle.ii_directory.specs.declared.name.Name.TheVariants.{Meta}
use Rattle.ii_directory.specs.Directory.{Files}
use Rattle.ii_store.specs.Index.{◌>>=◌}
use Rattle.ii_store.specs.IndexMeta.{MetaState, SegmentState, segment_view}
use Rattle.ii_store.specs.declared.index_meta.SegmentMeta.{SegmentMeta}
use Rattle.ii_store.specs.Segments.{list_in}
use Rattle.ii_segment_store.specs.Commits.{HaveIdsBelow}
use Rattle.ii_segment_store.specs.Contents.{IndexContents, SegmentContents, all_contents, index_contents, list_contents, segment_in, all_of}
use Rattle.ii_segment_store.specs.Joins.{first_contents, first_listed}
use Rattle.ii_segment_store.proofs.CommitLaws.{listed_contents}

-- ids of the first segments
pub first_below : (first next : ℕ) (ss : List SegmentState) → HaveIdsBelow next ss → HaveIdsBelow next (take first ss)
first_below zero next ss below = tt
first_below (suc n) next [] below = tt
first_below (suc n) next (s ∷ ss) below = (below.0, first_below n next ss below.1)

-- what the first segments hold, by the list
pub first_is : (first : ℕ) (files : Files) (m : MetaState) → list_in (files Meta) ≡ Ok m → first_contents first files ≡ list_contents (first_listed first m) files
first_is first files m listed = ap (λ (r : Result MetaState IndexFault). r >>= λ (l : MetaState). list_contents (first_listed first l) files) listed

both_read : (one : Result SegmentContents IndexFault) (others : Result (List SegmentContents) IndexFault) (cs : List SegmentContents) → (one >>= λ (c : SegmentContents). others >>= λ (os : List SegmentContents). Ok (c ∷ os)) ≡ Ok cs
    → (c : SegmentContents) × (os : List SegmentContents) × (one ≡ Ok c) × (others ≡ Ok os) × (cs ≡ c ∷ os)
both_read (Ok c) (Ok os) cs e = (c, os, refl, refl, cc)
both_read (Ok c) (Err fault) cs e = absurd cc
both_read (Err fault) others cs e = absurd cc

none_read : (cs : List SegmentContents) → ◌≡◌ {A = Result (List SegmentContents) IndexFault} (Ok []) (Ok cs) → cs ≡ []
none_read cs e = cc

-- no segment is left
pub none_left : (first : ℕ) (listed : List SegmentMeta) → length listed < first → map segment_view [] ≡ drop first (map segment_view listed)
none_left first listed over = sym (drop_all first (map segment_view listed) (let many = length-map listed segment_view in omega (arith, many, over)))

-- Segments that are read are read in two parts.
record AreRead (first : ℕ) (ss : List SegmentState) (files : Files) (cs : List SegmentContents) : Type 0 where
  before : all_contents (take first ss) files ≡ Ok (take first cs)
  from : all_contents (drop first ss) files ≡ Ok (drop first cs)

parts_read : (first : ℕ) (ss : List SegmentState) (files : Files) (cs : List SegmentContents) → all_contents ss files ≡ Ok cs → AreRead first ss files cs
unfolding all_of
parts_read zero ss files cs read = record { before = refl; from = read }
parts_read (suc n) [] files cs read = subst (AreRead (suc n) [] files) (sym (none_read cs read)) (record { before = refl; from = refl })
parts_read (suc n) (s ∷ ss) files cs read =
    let p = both_read (segment_in s files) (all_contents ss files) cs read in
    let later = parts_read n ss files p.1 p.3 in
    subst (AreRead (suc n) (s ∷ ss) files) (sym p.4) (record { before = first_read p.2 later.before; from = later.from })
  where
    first_read : {c : SegmentContents} {os : List SegmentContents} → segment_in s files ≡ Ok c → all_contents (take n ss) files ≡ Ok os → (segment_in s files >>= λ (d : SegmentContents). all_contents (take n ss) files >>= λ (ds : List SegmentContents). Ok (d ∷ ds)) ≡ Ok (c ∷ os)
    first_read one others = rw (one, others) refl

contents_read : (schema : List ℕ) (read : Result (List SegmentContents) IndexFault) (c : IndexContents) → (read >>= λ (cs : List SegmentContents). Ok (record { schema = schema; segments = cs })) ≡ Ok c
    → (cs : List SegmentContents) × (read ≡ Ok cs) × (c ≡ record { schema = schema; segments = cs })
contents_read schema (Ok cs) c e = (cs, refl, cc)
contents_read schema (Err fault) c e = absurd cc

-- What the first segments of an index hold, and the others.
pub record IsSplit (first : ℕ) (files : Files) (m : MetaState) (c : IndexContents) : Type 0 where
  pub before : first_contents first files ≡ Ok (record { schema = c.schema; segments = take first c.segments })
  pub from : all_contents (drop first m.segments) files ≡ Ok (drop first c.segments)

pub splits : (first : ℕ) (files : Files) (m : MetaState) (c : IndexContents) → list_in (files Meta) ≡ Ok m → index_contents files ≡ Ok c → IsSplit first files m c
unfolding list_contents
splits first files m c listed holds =
    let p = contents_read m.schema (all_contents m.segments files) c (sym (listed_contents m files listed) ∙ holds) in
    let parts = parts_read first m.segments files p.0 p.1 in
    subst (IsSplit first files m) (sym p.2) (record {
      before = first_is first files m listed ∙ (rw parts.before refl);
      from = parts.from;
    })
