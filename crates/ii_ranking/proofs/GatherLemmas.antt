-- Laws of shares that are gathered query by query.
use Rattle.std.proofs.Common.{◌≡◌, ◌∙◌, ℕ, ◌≤◌, ◌++◌, ◌&&◌, Bool, true, false, List, [], ◌∷◌, Option, None, append_assoc, if◌then◌else◌, length, map, nat_lt, not, take, refl, sym, ap, arith}
use Rattle.std.specs.List.{list_all}
use Rattle.std.proofs.Math.Bool.{and_assoc}
use Rattle.std.proofs.Math.Seq.{take-append_seam}
use Rattle.std.proofs.lemmas.Bool.{and_parts, le-ltb, lt-ltb}
use Rattle.std.proofs.lemmas.List.{append-nil, length-append, length-map, take-append-le, take-map}
use Rattle.ii_io.specs.declared.faults.Part.{Part}
use Rattle.ii_query_parser.specs.declared.query.Query.{Query}
use Rattle.ii_query_parser.specs.Queries.{has_fields, tree_of, trees_of}
use Rattle.ii_reader.specs.OpenIndex.{OpenIndexState}
use Rattle.ii_ranking.specs.declared.shares.Share.{Share}
use Rattle.ii_ranking.specs.Scores.{Scored, first_of, query_damage, trees_damage}
use Rattle.ii_ranking.specs.Shares.{ShareState, all_have_shares, has_shares, share_of, tree_shares, trees_shares}

-- The shares so far, with those of the queries that are left, are those of all.
pub record IsGathering (s : Scored) (index : OpenIndexState) (all left : List Query) (doc : ℕ) (old new : List ShareState) : Type 0 where
  pub gathered : List ShareState
  pub is : new ≡ old ++ gathered
  pub more : gathered ++ trees_shares s (trees_of left) doc ≡ trees_shares s (trees_of all) doc
  pub sound : trees_damage index (trees_of left) ≡ trees_damage index (trees_of all)
  pub fields : list_all (has_fields (length index.readers)) left ≡ true

pub gathers_none : (s : Scored) (index : OpenIndexState) (all : List Query) (doc : ℕ) (old : List ShareState) → list_all (has_fields (length index.readers)) all ≡ true → IsGathering s index all all doc old old
gathers_none s index all doc old fields = record { gathered = []; is = sym (append-nil old); more = refl; sound = refl; fields = fields }

-- one query more
pub gathers_one : (s : Scored) (index : OpenIndexState) (all left others : List Query) (q : Query) (doc : ℕ) (old new later : List ShareState) → left ≡ q ∷ others → later ≡ new ++ tree_shares s (tree_of q) doc → query_damage index q ≡ None
    → IsGathering s index all left doc old new → IsGathering s index all others doc old later
gathers_one s index all left others q doc old new later is later_is sound g =
    let row = tree_shares s (tree_of q) doc in
    record {
      gathered = g.gathered ++ row;
      is = later_is ∙ ap (λ (shares : List ShareState). shares ++ row) g.is ∙ append_assoc old g.gathered row;
      more = append_assoc g.gathered row (trees_shares s (trees_of others) doc) ∙ ap (λ (qs : List Query). g.gathered ++ trees_shares s (trees_of qs) doc) (sym is) ∙ g.more;
      sound = sym (ap (λ (d : Option Part). first_of d (trees_damage index (trees_of others))) sound) ∙ ap (λ (qs : List Query). trees_damage index (trees_of qs)) (sym is) ∙ g.sound;
      fields = (and_parts (has_fields (length index.readers) q) (list_all (has_fields (length index.readers)) others) (rw is at g.fields)).1;
    }

-- no query is left
pub gathers_all : (s : Scored) (index : OpenIndexState) (all left : List Query) (doc : ℕ) (old new : List ShareState) → left ≡ [] → IsGathering s index all left doc old new → new ≡ old ++ trees_shares s (trees_of all) doc
gathers_all s index all left doc old new none g = g.is ∙ ap (λ (shares : List ShareState). old ++ shares) (sym (append-nil g.gathered) ∙ ap (λ (qs : List Query). g.gathered ++ trees_shares s (trees_of qs) doc) (sym none) ∙ g.more)

-- whether there are more shares than before
grows : (xs ys : List ShareState) → nat_lt (length xs) (length (xs ++ ys)) ≡ has_shares ys
grows xs [] = ap (λ (row : List ShareState). nat_lt (length xs) (length row)) (append-nil xs) ∙ le-ltb (length xs) (length xs) (omega arith)
grows xs (y ∷ ys) = let many = length-append xs (y ∷ ys) in lt-ltb (length xs) (length (xs ++ y ∷ ys)) (omega (arith, many))

pub has_grown : (old new : List Share) (row : List ShareState) → map share_of new ≡ map share_of old ++ row → nat_lt (length old) (length new) ≡ has_shares row
has_grown old new row is =
    (λ j. nat_lt (sym (length-map old share_of) j) (sym (length-map new share_of) j)) ∙ ap (λ (shares : List ShareState). nat_lt (length (map share_of old)) (length shares)) is ∙ grows (map share_of old) row

-- whether each query so far matches, with those that are left
pub each_so_far : (s : Scored) (all left others : List Query) (q : Query) (doc : ℕ) (so_far later grew : Bool) → left ≡ q ∷ others → later ≡ (so_far && grew) → grew ≡ has_shares (tree_shares s (tree_of q) doc)
    → (so_far && all_have_shares s (trees_of left) doc) ≡ all_have_shares s (trees_of all) doc → (later && all_have_shares s (trees_of others) doc) ≡ all_have_shares s (trees_of all) doc
each_so_far s all left others q doc so_far later grew is later_is grew_is told =
    ap (λ (b : Bool). b && all_have_shares s (trees_of others) doc) (later_is ∙ ap (λ (b : Bool). so_far && b) grew_is)
    ∙ and_assoc so_far (has_shares (tree_shares s (tree_of q) doc)) (all_have_shares s (trees_of others) doc) ∙ ap (λ (qs : List Query). so_far && all_have_shares s (trees_of qs) doc) (sym is) ∙ told

-- shares that are dropped, unless they are kept
pub kept_or_dropped : (old new later : List Share) (start : ℕ) (kept : Bool) (row : List ShareState) → start ≡ length old → map share_of new ≡ map share_of old ++ row → later ≡ (if kept then new else take start new)
    → map share_of later ≡ map share_of old ++ (if kept then row else [])
kept_or_dropped old new later start true row begins is later_is = ap (map share_of) later_is ∙ is
kept_or_dropped old new later start false row begins is later_is =
    ap (map share_of) later_is ∙ sym (take-map share_of start new) ∙ ap (take start) is ∙ ap (λ (n : ℕ). take n (map share_of old ++ row)) (begins ∙ sym (length-map old share_of))
    ∙ take-append_seam (map share_of old) row ∙ sym (append-nil (map share_of old))

-- shares that are dropped, if there are more than before
pub dropped_if_more : (old new later : List Share) (start : ℕ) (kept : Bool) (row : List ShareState) → start ≤ length old → map share_of new ≡ map share_of old ++ row → kept ≡ not (nat_lt (length old) (length new))
    → later ≡ (if kept then new else take start new) → map share_of later ≡ (if has_shares row then take start (map share_of old) else map share_of old)
dropped_if_more old new later start kept row low is kept_is later_is = by row is (kept_is ∙ ap not (has_grown old new row is))
  where
    by : (row : List ShareState) → map share_of new ≡ map share_of old ++ row → kept ≡ not (has_shares row) → map share_of later ≡ (if has_shares row then take start (map share_of old) else map share_of old)
    by [] same all = ap (map share_of) (later_is ∙ ap (λ (b : Bool). if b then new else take start new) all) ∙ same ∙ append-nil (map share_of old)
    by (y ∷ ys) more none =
        let many = length-map old share_of in
        ap (map share_of) (later_is ∙ ap (λ (b : Bool). if b then new else take start new) none) ∙ sym (take-map share_of start new) ∙ ap (take start) more ∙ take-append-le start (map share_of old) (y ∷ ys) (omega (arith, low, many))
