-- What calls do to cursors, one after the other.
use Rattle.std.proofs.Common.{◌≡◌, ℕ, zero, suc, ◌+◌, ◌<◌, ◌≤◌, min, List, [], ◌∷◌, add-one, drop, get_or, length, set, refl, sym, ap, subst, ◌∙◌, arith}
use Rattle.std.specs.List.{AllByRecursion, AllZip}
use Rattle.std.specs.Prelude.{map}
use Rattle.std.proofs.lemmas.Bool.{le-leb, lt-leb}
use Rattle.ii_base.specs.declared.doc_id.TheConstants.{TERMINATED}
use Rattle.ii_base.specs.Entries.{Entry, docs_of, document}
use Rattle.ii_docset.specs.Cursor.{IsAscending, IsSound, doc_at, from_doc}
use Rattle.ii_docset.proofs.CursorLemmas.{documents_sound}
use Rattle.ii_query.specs.Combined.{QueryCursorState, StandsAt, either, put_all, put_in, union_of}
use Rattle.ii_query.specs.QueryCursor.{WentTo, cursors_under, depth_over, rests}
use Rattle.ii_query.specs.WorkLaws.{none_went}
use Rattle.ii_query.proofs.CommonLemmas.{docs_again}
use Rattle.ii_query.proofs.NestedLemmas.{either_at}
use Rattle.ii_query.proofs.UnionLemmas.{either_from, next_from}
use Rattle.ii_query.proofs.WorkLemmas.{all_beside}

-- The first elements of a list were changed, and the others are as they were.
abbrev pub DoneTo : {X : Type 0} → (X → X → Type 0) → ℕ → List X → List X → Type 0
DoneTo R zero olds news = olds ≡ news
DoneTo R (suc i) [] [] = Unit {0}
DoneTo R (suc i) [] (n ∷ ns) = ⊥
DoneTo R (suc i) (o ∷ os) [] = ⊥
DoneTo R (suc i) (o ∷ os) (n ∷ ns) = R o n × DoneTo R i os ns

done_more : {X : Type 0} (R : X → X → Type 0) (i : ℕ) (olds news : List X) (x y : X) → i < length news → x ≡ get_or news i x → R x y → DoneTo R i olds news → DoneTo R (suc i) olds (set news i y)
done_more R zero olds [] x y inside is r done = absurd (omega (arith, inside))
done_more R zero olds (n ∷ ns) x y inside is r done = subst (λ (l : List _). DoneTo R (suc zero) l (y ∷ ns)) (sym done) (subst (λ (z : _). R z y) is r, refl)
done_more R (suc i) [] [] x y inside is r done = absurd (omega (arith, inside))
done_more R (suc i) [] (n ∷ ns) x y inside is r done = elim done [ ]
done_more R (suc i) (o ∷ os) [] x y inside is r done = elim done [ ]
done_more R (suc i) (o ∷ os) (n ∷ ns) x y inside is r done = (done.0, done_more R i os ns x y (omega (arith, inside)) is r done.1)

-- one element more
pub done_next : {X : Type 0} (R : X → X → Type 0) (i : ℕ) (olds news : List X) (x y : X) → i < length news → x ≡ get_or news i x → R x y → DoneTo R i olds news → DoneTo R (i + 1) olds (set news i y)
done_next R i olds news x y inside is r done = subst (λ (n : ℕ). DoneTo R n olds (set news i y)) (sym (add-one i)) (done_more R i olds news x y inside is r done)

-- all elements
pub done_ends : {X : Type 0} (R : X → X → Type 0) (olds news : List X) → DoneTo R (length olds) olds news → AllZip R olds news
done_ends R [] [] done = tt
done_ends R [] (n ∷ ns) done = absurd (cc)
done_ends R (o ∷ os) [] done = elim done [ ]
done_ends R (o ∷ os) (n ∷ ns) done = (done.0, done_ends R os ns done.1)

-- less is said
pub done_weaker : {X : Type 0} (R S : X → X → Type 0) → ((x y : X) → R x y → S x y) → (i : ℕ) (olds news : List X) → DoneTo R i olds news → DoneTo S i olds news
done_weaker R S weaker zero olds news done = done
done_weaker R S weaker (suc i) [] [] done = done
done_weaker R S weaker (suc i) [] (n ∷ ns) done = elim done [ ]
done_weaker R S weaker (suc i) (o ∷ os) [] done = elim done [ ]
done_weaker R S weaker (suc i) (o ∷ os) (n ∷ ns) done = (weaker o n done.0, done_weaker R S weaker i os ns done.1)

pub zip_weaker : {X : Type 0} (R S : X → X → Type 0) → ((x y : X) → R x y → S x y) → (olds news : List X) → AllZip R olds news → AllZip S olds news
zip_weaker R S weaker [] [] done = done
zip_weaker R S weaker [] (n ∷ ns) done = elim done [ ]
zip_weaker R S weaker (o ∷ os) [] done = elim done [ ]
zip_weaker R S weaker (o ∷ os) (n ∷ ns) done = (weaker o n done.0, zip_weaker R S weaker os ns done.1)

-- the others were changed by nothing
pub done_stays : {X : Type 0} (R : X → X → Type 0) → ((x : X) → R x x) → (i : ℕ) (olds news : List X) → DoneTo R i olds news → AllZip R olds news
done_stays R same zero olds news done = subst (λ (l : List _). AllZip R olds l) done (none_went R same olds)
done_stays R same (suc i) [] [] done = tt
done_stays R same (suc i) [] (n ∷ ns) done = elim done [ ]
done_stays R same (suc i) (o ∷ os) [] done = elim done [ ]
done_stays R same (suc i) (o ∷ os) (n ∷ ns) done = (done.0, done_stays R same i os ns done.1)

pub done_long : {X : Type 0} (R : X → X → Type 0) (i : ℕ) (olds news : List X) → DoneTo R i olds news → length news ≡ length olds
done_long R zero olds news done = ap length (sym done)
done_long R (suc i) [] [] done = refl
done_long R (suc i) [] (n ∷ ns) done = elim done [ ]
done_long R (suc i) (o ∷ os) [] done = elim done [ ]
done_long R (suc i) (o ∷ os) (n ∷ ns) done = ap suc (done_long R i os ns done.1)

-- the next cursor is less deep than those together
pub done_depth : {T : Type 0} (R : QueryCursorState T → QueryCursorState T → Type 0) (i : ℕ) (olds news : List (QueryCursorState T)) (x : QueryCursorState T) → i < length news → x ≡ get_or news i x → DoneTo R i olds news → suc x.depth ≤ depth_over olds
done_depth R zero olds [] x inside is done = absurd (omega (arith, inside))
done_depth R zero olds (n ∷ ns) x inside is done = let same = ap (λ (c : QueryCursorState _). c.depth) is in rw (done) (omega (arith, same))
done_depth R (suc i) [] [] x inside is done = absurd (omega (arith, inside))
done_depth R (suc i) [] (n ∷ ns) x inside is done = elim done [ ]
done_depth R (suc i) (o ∷ os) [] x inside is done = elim done [ ]
done_depth R (suc i) (o ∷ os) (n ∷ ns) x inside is done = let later = done_depth R i os ns x (omega (arith, inside)) is done.1 in omega (arith, later)

pub depth_inside : {T : Type 0} (cs : List (QueryCursorState T)) (i : ℕ) (x : QueryCursorState T) → i < length cs → x ≡ get_or cs i x → suc x.depth ≤ depth_over cs
depth_inside [] i x inside is = absurd (omega (arith, inside))
depth_inside (c ∷ cs) zero x inside is = let same = ap (λ (d : QueryCursorState _). d.depth) is in omega (arith, same)
depth_inside (c ∷ cs) (suc i) x inside is = let later = depth_inside cs i x (omega (arith, inside)) is in omega (arith, later)

-- what each did, they did together
pub depth_stays : {T : Type 0} (R : QueryCursorState T → QueryCursorState T → Type 0) → ((o n : QueryCursorState T) → R o n → n.depth ≡ o.depth) → (olds news : List (QueryCursorState T)) → AllZip R olds news → depth_over news ≡ depth_over olds
depth_stays R depth [] [] all = refl
depth_stays R depth [] (n ∷ ns) all = elim all [ ]
depth_stays R depth (o ∷ os) [] all = elim all [ ]
depth_stays R depth (o ∷ os) (n ∷ ns) all = rw (depth o n all.0, depth_stays R depth os ns all.1) refl

pub work_under : {T : Type 0} (went : T → T → Type 0) (R : QueryCursorState T → QueryCursorState T → Type 0) → ((o n : QueryCursorState T) → R o n → AllZip went o.cursors n.cursors) → (olds news : List (QueryCursorState T)) → AllZip R olds news → AllZip went (cursors_under olds) (cursors_under news)
work_under went R work [] [] all = tt
work_under went R work [] (n ∷ ns) all = elim all [ ]
work_under went R work (o ∷ os) [] all = elim all [ ]
work_under went R work (o ∷ os) (n ∷ ns) all = all_beside went o.cursors (cursors_under os) n.cursors (cursors_under ns) (work o n all.0) (work_under went R work os ns all.1)

-- the least of the first documents of the first cursors
abbrev pub least_to : {T : Type 0} → ℕ → List (QueryCursorState T) → ℕ
least_to zero cs = TERMINATED
least_to (suc i) [] = TERMINATED
least_to (suc i) (c ∷ cs) = min (doc_at c.rest) (least_to i cs)

low : {T : Type 0} (i : ℕ) (cs : List (QueryCursorState T)) → least_to i cs ≤ TERMINATED
low zero cs = omega arith
low (suc i) [] = omega arith
low (suc i) (c ∷ cs) = let later = low i cs in omega (arith, later)

least_more : {T : Type 0} (i : ℕ) (cs : List (QueryCursorState T)) (c : QueryCursorState T) → i < length cs → least_to (suc i) (set cs i c) ≡ min (least_to i cs) (doc_at c.rest)
least_more i [] c inside = absurd (omega (arith, inside))
least_more zero (d ∷ ds) c inside = omega arith
least_more (suc i) (d ∷ ds) c inside = let later = least_more i ds c (omega (arith, inside)) in omega (arith, later)

pub least_next : {T : Type 0} (i : ℕ) (cs : List (QueryCursorState T)) (c : QueryCursorState T) → i < length cs → least_to (i + 1) (set cs i c) ≡ min (least_to i cs) (doc_at c.rest)
least_next i cs c inside = ap (λ (n : ℕ). least_to n (set cs i c)) (add-one i) ∙ least_more i cs c inside

least_here : {T : Type 0} (i : ℕ) (cs : List (QueryCursorState T)) (c : QueryCursorState T) → i < length cs → c ≡ get_or cs i c → least_to (suc i) cs ≡ min (least_to i cs) (doc_at c.rest)
least_here i [] c inside is = absurd (omega (arith, inside))
least_here zero (d ∷ ds) c inside is = let same = ap (λ (x : QueryCursorState _). doc_at x.rest) is in omega (arith, same)
least_here (suc i) (d ∷ ds) c inside is = let later = least_here i ds c (omega (arith, inside)) is in omega (arith, later)

pub least_at : {T : Type 0} (i : ℕ) (cs : List (QueryCursorState T)) (c : QueryCursorState T) → i < length cs → c ≡ get_or cs i c → least_to (i + 1) cs ≡ min (least_to i cs) (doc_at c.rest)
least_at i cs c inside is = ap (λ (n : ℕ). least_to n cs) (add-one i) ∙ least_here i cs c inside is

-- Each of the first cursors is sound.
abbrev pub SoundTo : {T : Type 0} → ℕ → List (QueryCursorState T) → Type 0
SoundTo zero cs = Unit {0}
SoundTo (suc i) [] = Unit {0}
SoundTo (suc i) (c ∷ cs) = IsSound c.rest × SoundTo i cs

sound_more : {T : Type 0} (i : ℕ) (cs : List (QueryCursorState T)) (c : QueryCursorState T) → i < length cs → c ≡ get_or cs i c → IsSound c.rest → SoundTo i cs → SoundTo (suc i) cs
sound_more i [] c inside is sound all = absurd (omega (arith, inside))
sound_more zero (d ∷ ds) c inside is sound all = (subst (λ (x : QueryCursorState _). IsSound x.rest) is sound, tt)
sound_more (suc i) (d ∷ ds) c inside is sound all = (all.0, sound_more i ds c (omega (arith, inside)) is sound all.1)

pub sound_next : {T : Type 0} (i : ℕ) (cs : List (QueryCursorState T)) (c : QueryCursorState T) → i < length cs → c ≡ get_or cs i c → IsSound c.rest → SoundTo i cs → SoundTo (i + 1) cs
sound_next i cs c inside is sound all = subst (λ (n : ℕ). SoundTo n cs) (sym (add-one i)) (sound_more i cs c inside is sound all)

pub sound_ends : {T : Type 0} (cs : List (QueryCursorState T)) → SoundTo (length cs) cs → AllByRecursion (λ (c : QueryCursorState T). IsSound c.rest) cs
sound_ends [] all = tt
sound_ends (c ∷ cs) all = (all.0, sound_ends cs all.1)

-- the least document is the first of the union
pub union_at : {T : Type 0} (cs : List (QueryCursorState T)) → AllByRecursion (λ (c : QueryCursorState T). IsSound c.rest) cs → StandsAt (least_to (length cs) cs) (union_of (rests cs))
union_at [] all = record { sound = documents_sound [] refl; here = refl }
union_at (c ∷ cs) all =
    let later = union_at cs all.1 in
    either_at c.rest (union_of (rests cs)) (doc_at c.rest) (least_to (length cs) cs) all.0 later.sound refl later.here

pub went_sound : {T : Type 0} (went : T → T → Type 0) (target : ℕ) (olds news : List (QueryCursorState T)) → AllZip (WentTo went target) olds news → AllByRecursion (λ (c : QueryCursorState T). IsSound c.rest) news
went_sound went target [] [] all = tt
went_sound went target [] (n ∷ ns) all = elim all [ ]
went_sound went target (o ∷ os) [] all = elim all [ ]
went_sound went target (o ∷ os) (n ∷ ns) all = (all.0.sound, went_sound went target os ns all.1)

-- the union drops what each part drops
pub union_from : {T : Type 0} (went : T → T → Type 0) (target : ℕ) (olds news : List (QueryCursorState T)) → AllZip (WentTo went target) olds news → union_of (rests news) ≡ from_doc target (union_of (rests olds))
union_from went target [] [] all = refl
union_from went target [] (n ∷ ns) all = elim all [ ]
union_from went target (o ∷ os) [] all = elim all [ ]
union_from went target (o ∷ os) (n ∷ ns) all = rw (all.0.rest, union_from went target os ns all.1) (either_from target o.rest (union_of (rests os)))

-- the union without its first document
pub union_next : {T : Type 0} (went : T → T → Type 0) (doc : ℕ) (olds news : List (QueryCursorState T)) → StandsAt doc (union_of (rests olds)) → doc < TERMINATED → AllZip (WentTo went (doc + 1)) olds news → union_of (rests news) ≡ drop 1 (union_of (rests olds))
union_next went doc olds news at low all = union_from went (doc + 1) olds news all ∙ sym (next_from doc (union_of (rests olds)) at.sound.ascending at.here low)

-- the union of two
put_none : (es : List Entry) → IsAscending es → put_all (docs_of es) [] ≡ docs_of es
put_none [] ascend = refl
put_none (e ∷ es) ascend = ap (put_in e.doc) (put_none es ascend.1) ∙ put_front e.doc es ascend.0
  where
    put_front : (doc : ℕ) (es : List Entry) → doc < doc_at es → put_in doc (docs_of es) ≡ doc ∷ docs_of es
    put_front doc [] low = refl
    put_front doc (e ∷ es) low = rw (le-leb doc e.doc (omega (arith, low)), lt-leb e.doc doc low) refl

pub union_two : (es fs : List Entry) → IsSound fs → union_of (es ∷ fs ∷ []) ≡ either es fs
union_two es fs sound = ap (λ (docs : List ℕ). map document (put_all (docs_of es) docs)) (docs_again (put_all (docs_of fs) []) ∙ put_none fs sound.ascending)
