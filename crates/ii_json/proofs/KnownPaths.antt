-- Known paths: the keys of a set, as bytes.
use Rattle.std.proofs.Common.{◌≡◌, ℕ, zero, suc, ◌+◌, ◌<◌, ◌≤◌, ◌^◌, Bool, true, false, cond, not, ◌||◌, List, [], ◌∷◌, ◌++◌, map, length, take, get_or, Some, None, refl, sym, ap, arith, ◌∙◌, IsTrue}
use Rattle.std.specs.Prelude.{bytes_eq, position}
use Rattle.std.specs.List.{AllByRecursion, IsDistinct, list_any, position_or_len, slice_get}
use Rattle.std.proofs.lemmas.List.{length-map, map-append, map_more}
use Rattle.indexmap.specs.IndexSet.{insert_key}
use Rattle.ii_json.specs.Paths.{is_known, path_fault, path_id, with_path}

-- one more element, by its view
pub more_seen : {X Y Z : Type 0} (f : X → Z) (g : Y → Z) (xs : List X) (ys : List Y) (i : ℕ) (x : X) (d : Y) → i < length ys → map f xs ≡ map g (take i ys) → f x ≡ g (get_or ys i d) → map f (xs ++ x ∷ []) ≡ map g (take (i + 1) ys)
more_seen f g xs ys i x d within held is = rw (map-append f xs (x ∷ []), held, is) (sym (map_more g ys i d within))

module _ {K L : Type 0} (f : K → L) (p : L → Bool) where
  any_mapped : (ks : List K) → list_any (λ (k : K). p (f k)) ks ≡ list_any p (map f ks)
  any_mapped [] = refl
  any_mapped (k ∷ ks) = ap (λ (b : Bool). p (f k) || b) (any_mapped ks)

  place_mapped : (ks : List K) → position_or_len (λ (k : K). p (f k)) ks ≡ position_or_len p (map f ks)
  place_mapped [] = refl
  place_mapped (k ∷ ks) = ap (λ (n : ℕ). cond (not (p (f k))) (1 + n) 0) (place_mapped ks)

module _ {K L : Type 0} (e : L → L → Bool) (f : K → L) where
  apart_all : (k : K) (ks : List K) → AllByRecursion (λ (y : K). e (f k) (f y) ≡ false) ks → AllByRecursion (λ (y : L). e (f k) y ≡ false) (map f ks)
  apart_all k [] apart = tt
  apart_all k (y ∷ ys) apart = (apart.0, apart_all k ys apart.1)

  -- keys that differ by some part of them
  pub distinct_mapped : (ks : List K) → IsDistinct (λ (x y : K). e (f x) (f y)) ks → IsDistinct e (map f ks)
  unfolding IsDistinct
  distinct_mapped [] distinct = tt
  distinct_mapped (k ∷ ks) distinct = (apart_all k ks distinct.0, distinct_mapped ks distinct.1)

place_unknown : {L : Type 0} (p : L → Bool) (ls : List L) → list_any p ls ≡ false → position_or_len p ls ≡ length ls
place_unknown p [] none = refl
place_unknown p (l ∷ ls) none = by_case (p l) refl none (place_unknown p ls)
  where
    by_case : (b : Bool) → p l ≡ b → (b || list_any p ls) ≡ false → (list_any p ls ≡ false → position_or_len p ls ≡ length ls) → position_or_len p (l ∷ ls) ≡ length (l ∷ ls)
    by_case true is whole rest = absurd (cc)
    by_case false is whole rest = rw is (omega (arith, rest whole))

-- what a number under a condition says
pub some_if : (t : Bool) (n i : ℕ) → Some i ≡ cond t (Some n) None → (t ≡ true) × (i ≡ n)
some_if true n i e = (refl, cc)
some_if false n i e = absurd (cc)

-- an unknown path is appended to the known ones, as bytes
module _ {K : Type 0} (f : K → List ℕ) (known : List (List ℕ)) (keys : List K) (seen : map f keys ≡ known) (path : List ℕ) where
  pub known_is : list_any (λ (k : K). bytes_eq path (f k)) keys ≡ is_known known path
  known_is = any_mapped f (bytes_eq path) keys ∙ ap (list_any (bytes_eq path)) seen

  pub found_id : (id : ℕ) → Some id ≡ position (λ (k : K). bytes_eq path (f k)) keys → id ≡ path_id known path
  found_id id found = (some_if _ _ id found).1 ∙ place_mapped f (bytes_eq path) keys ∙ ap (position_or_len (bytes_eq path)) seen

  pub next_id : is_known known path ≡ false → length keys ≡ path_id known path
  next_id unknown = sym (length-map keys f) ∙ ap length seen ∙ sym (place_unknown (bytes_eq path) known unknown)

  pub added_paths : is_known known path ≡ false → (k : K) → f k ≡ path → map f (insert_key (λ (x y : K). bytes_eq (f x) (f y)) keys k) ≡ with_path known path
  added_paths unknown k is = rw (is, known_is, unknown) (map-append f keys (k ∷ []) ∙ ap (λ (q : List ℕ). map f keys ++ q ∷ []) is ∙ ap (λ (ps : List (List ℕ)). ps ++ path ∷ []) seen)

-- a known path has no fault
pub known_fault : (known : List (List ℕ)) (path : List ℕ) → is_known known path ≡ true → path_fault known path ≡ None
known_fault known path is = rw is refl

pub same_paths : (known : List (List ℕ)) (path : List ℕ) → is_known known path ≡ true → known ≡ with_path known path
same_paths known path is = rw is refl

pub not_known : {T : Type 0} (known : List (List ℕ)) (path : List ℕ) → is_known known path ≡ false → IsTrue (is_known known path) → T
not_known known path unknown is = absurd (cc)

pub one_more : (added : Bool) (old new : ℕ) → new ≡ old + cond added 1 0 → old < 2 ^ 32 → new ≤ 2 ^ 32
one_more true old new is small = omega (arith, is, small)
one_more false old new is small = omega (arith, is, small)

-- the bytes of a path at its place
pub path_at : {K : Type 0} (f : K → List ℕ) (keys : List K) (id : ℕ) (k : K) → Some k ≡ slice_get keys id → f k ≡ get_or (map f keys) id []
path_at f [] id k found = absurd (cc)
path_at f (x ∷ xs) zero k found = cc
path_at f (x ∷ xs) (suc id) k found = path_at f xs id k found
