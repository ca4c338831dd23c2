-- Terms that hold path ids, and their keys.
use Rattle.std.proofs.Common.{◌≡◌, ℕ, zero, suc, ◌+◌, ◌<◌, ◌^◌, ◌&&◌, ◌||◌, Bool, true, false, cond, List, [], ◌∷◌, ◌++◌, length, drop, Some, None, Option, refl, sym, ap, ◌∙◌, subst, arith, length-append, Contains}
use Rattle.std.proofs.Common.{Ordering, Less, Equal, Greater}
use Rattle.std.specs.Prelude.{bytes_eq, if◌then◌else◌, nat_le, slice_index_or}
use Rattle.std.specs.Cmp.Lexicographic.{slice_cmp}
use Rattle.std.specs.List.{AllByRecursion, IsDistinct}
use Rattle.std.specs.Ordering.{nat_cmp, ordering_then}
use Rattle.std.proofs.lemmas.Cmp.{nat_list_eq_equiv}
use Rattle.std.proofs.lemmas.List.{drop-drop, get_or-map, get_or_default}
use Rattle.std.proofs.lemmas.Slice.Eq.{bytes_eq-Decides}
use Rattle.ii_base.specs.Paths.{has_zero}
use Rattle.ii_base.specs.Values.{json_key}
use Rattle.ii_definitions.specs.JsonKeys.{path_in}
use Rattle.ii_definitions.proofs.KeyLaws.{path_of_key}
use Rattle.ii_json.specs.PathRank.{path_rank, path_ranks}
use Rattle.ii_json.specs.Paths.{AreDistinct, is_known, path_id}
use Rattle.ii_json.proofs.KeyOrder.{ranked_as_keys, same_path}
use Rattle.ii_postings_writer.specs.IndexingTerm.{field_bytes, field_in}
use Rattle.ii_postings_writer.specs.ResolvedTerms.{AreClean, HoldsId, IsHeldTerm, behind_id, behind_path, front_of, held_cmp, held_key, held_value, is_json_field, key_with, path_id_in, rank_of, resolved, value_place}
use Rattle.ii_postings_writer.proofs.SortedLemmas.{field_of_bytes, bytes_same}
use Rattle.ii_postings_writer.proofs.TermLemmas.{behind_field, field_in_front, length_field}

front_is : (field : ℕ) (value : List ℕ) → front_of (field_bytes field ++ value) ≡ field_bytes field
front_is field value = (field_in_front field (field_bytes field ++ value) value refl).1

-- the id in a term
module _ (flags : List Bool) (field : ℕ) (value : List ℕ) (small : field < 2 ^ 32) where
  abbrev term : List ℕ
  term = field_bytes field ++ value

  flag_is : (b : Bool) → is_json_field flags field ≡ b → is_json_field flags (field_in term) ≡ b
  flag_is b is = ap (is_json_field flags) (field_of_bytes field value small) ∙ is

  pub no_id : is_json_field flags field ≡ false → path_id_in flags term ≡ None
  no_id is = by (nat_le 8 (length term)) (is_json_field flags (field_in term)) (flag_is false is)
    where
      by : (a b : Bool) → b ≡ false → cond (a && b) (Some (field_in (drop 4 term))) None ≡ None
      by true b none = rw none refl
      by false b none = refl

  pub some_id : (id : ℕ) (rest : List ℕ) → is_json_field flags field ≡ true → value ≡ held_value id rest → id < 2 ^ 32 → path_id_in flags term ≡ Some id
  some_id id rest is held low =
      let whole : length term ≡ 8 + length rest = omega (arith, length-append (field_bytes field) value, length_field field, ap length held, length-append (field_bytes id) rest, length_field id) in
      let long : nat_le 8 (length term) ≡ true = grind (arith, whole) in
      let at : field_in (drop 4 term) ≡ id = ap field_in (behind_field field value ∙ held) ∙ field_of_bytes id rest low in
      by (nat_le 8 (length term)) (is_json_field flags (field_in term)) (field_in (drop 4 term)) long (flag_is true is) at
    where
      by : (a b : Bool) (n : ℕ) → a ≡ true → b ≡ true → n ≡ id → cond (a && b) (Some n) None ≡ Some id
      by a b n long flag at = rw (long, flag, at) refl

  pub plain_behind : is_json_field flags field ≡ false → behind_id flags term ≡ value
  plain_behind is = ap (λ (o : Option ℕ). drop (value_place o) term) (no_id is) ∙ behind_field field value

  pub json_behind : (id : ℕ) (rest : List ℕ) → is_json_field flags field ≡ true → value ≡ held_value id rest → id < 2 ^ 32 → behind_id flags term ≡ rest
  json_behind id rest is held low =
      ap (λ (o : Option ℕ). drop (value_place o) term) (some_id id rest is held low)
      ∙ sym (drop-drop 4 4 term) ∙ ap (drop 4) (behind_field field value ∙ held) ∙ behind_field id rest

  pub plain_resolved : (paths : List (List ℕ)) → is_json_field flags field ≡ false → resolved flags paths term ≡ term
  plain_resolved paths is =
      ap (λ (o : Option ℕ). front_of term ++ key_with paths o (behind_id flags term)) (no_id is)
      ∙ ap (λ (v : List ℕ). front_of term ++ v) (plain_behind is) ∙ ap (λ (f : List ℕ). f ++ value) (front_is field value)

  pub json_resolved : (paths : List (List ℕ)) (id : ℕ) (rest : List ℕ) → is_json_field flags field ≡ true → value ≡ held_value id rest → id < 2 ^ 32
      → resolved flags paths term ≡ field_bytes field ++ json_key (slice_index_or paths id []) rest
  json_resolved paths id rest is held low =
      ap (λ (o : Option ℕ). front_of term ++ key_with paths o (behind_id flags term)) (some_id id rest is held low)
      ∙ ap (λ (v : List ℕ). front_of term ++ json_key (slice_index_or paths id []) v) (json_behind id rest is held low)
      ∙ ap (λ (f : List ℕ). f ++ json_key (slice_index_or paths id []) rest) (front_is field value)

-- the path of an id, and the id of a path
pub clean_at : (paths : List (List ℕ)) (i : ℕ) → AreClean paths → i < length paths → has_zero (slice_index_or paths i []) ≡ false
clean_at [] i all within = absurd (omega (arith, within))
clean_at (p ∷ ps) zero all within = all.0
clean_at (p ∷ ps) (suc i) all within = clean_at ps i all.1 (omega (arith, within))

apart_at : (p : List ℕ) (ps : List (List ℕ)) (i : ℕ) → AllByRecursion (λ (q : List ℕ). bytes_eq p q ≡ false) ps → i < length ps → bytes_eq (slice_index_or ps i []) p ≡ false
apart_at p [] i all within = absurd (omega (arith, within))
apart_at p (q ∷ ps) zero all within = nat_list_eq_equiv.symm q p ∙ all.0
apart_at p (q ∷ ps) (suc i) all within = apart_at p ps i all.1 (omega (arith, within))

pub id_of_path : (paths : List (List ℕ)) (i : ℕ) → AreDistinct paths → i < length paths → path_id paths (slice_index_or paths i []) ≡ i
unfolding IsDistinct
id_of_path [] i distinct within = absurd (omega (arith, within))
id_of_path (p ∷ ps) zero distinct within = rw (bytes_same p) refl
id_of_path (p ∷ ps) (suc i) distinct within = rw (apart_at p ps i distinct.0 (omega (arith, within))) (omega (arith, id_of_path ps i distinct.1 (omega (arith, within))))

pub path_of_id : (paths : List (List ℕ)) (path : List ℕ) → is_known paths path ≡ true → (path_id paths path < length paths) × (slice_index_or paths (path_id paths path) [] ≡ path)
path_of_id [] path known = absurd (cc)
path_of_id (p ∷ ps) path known = by (bytes_eq path p) refl (path_of_id ps path)
  where
    by : (b : Bool) → bytes_eq path p ≡ b → (is_known ps path ≡ true → (path_id ps path < length ps) × (slice_index_or ps (path_id ps path) [] ≡ path))
        → (path_id (p ∷ ps) path < length (p ∷ ps)) × (slice_index_or (p ∷ ps) (path_id (p ∷ ps) path) [] ≡ path)
    by true is rest = rw is (omega arith, sym ((bytes_eq-Decides path p).0 is))
    by false is rest =
        let later = rest (sym (rw is refl) ∙ known) in
        let next : path_id (p ∷ ps) path ≡ suc (path_id ps path) = rw is (omega arith) in
        (omega (arith, next, later.0), ap (λ (i : ℕ). slice_index_or (p ∷ ps) i []) next ∙ later.1)

pub known_at : (paths : List (List ℕ)) (i : ℕ) → i < length paths → is_known paths (slice_index_or paths i []) ≡ true
known_at [] i within = absurd (omega (arith, within))
known_at (p ∷ ps) zero within = rw (bytes_same p) refl
known_at (p ∷ ps) (suc i) within = by (bytes_eq (slice_index_or ps i []) p) (known_at ps i (omega (arith, within)))
  where
    by : (b : Bool) → is_known ps (slice_index_or ps i []) ≡ true → (b || is_known ps (slice_index_or ps i [])) ≡ true
    by true rest = refl
    by false rest = rest

pub behind_key : (path rest : List ℕ) → has_zero path ≡ false → behind_path (json_key path rest) ≡ rest
behind_key path rest none = ap (λ (p : List ℕ). drop (length p + 1) (json_key path rest)) (path_of_key path rest none) ∙ dropped path
  where
    dropped : (p : List ℕ) → drop (length p + 1) (p ++ 0 ∷ rest) ≡ rest
    dropped [] = refl
    dropped (b ∷ p) = let next : length (b ∷ p) + 1 ≡ suc (length p + 1) = omega arith in ap (λ (n : ℕ). drop n (b ∷ (p ++ 0 ∷ rest))) next ∙ dropped p

-- a held term is what its key is held as
module _ (flags : List Bool) (paths : List (List ℕ)) (distinct : AreDistinct paths) (clean : AreClean paths) where
  -- the bytes of a key in a field, and what is held of it
  pub held_back : (field id : ℕ) (rest : List ℕ) → is_json_field flags field ≡ true → id < length paths → held_key flags paths field (json_key (slice_index_or paths id []) rest) ≡ held_value id rest
  held_back field id rest is within =
      let path = slice_index_or paths id [] in
      let none = clean_at paths id clean within in
      let key = json_key path rest in
      ap (λ (b : Bool). if b then held_value (path_id paths (path_in key)) (behind_path key) else key) is
      ∙ ap (λ (p : List ℕ). held_value (path_id paths p) (behind_path key)) (path_of_key path rest none)
      ∙ ap (λ (v : List ℕ). held_value (path_id paths path) v) (behind_key path rest none)
      ∙ ap (λ (i : ℕ). held_value i rest) (id_of_path paths id distinct within)

  abbrev held_of : List ℕ → List ℕ
  held_of bytes = front_of bytes ++ held_key flags paths (field_in bytes) (drop 4 bytes)

  held_at : (field : ℕ) (key : List ℕ) → field < 2 ^ 32 → held_of (field_bytes field ++ key) ≡ field_bytes field ++ held_key flags paths field key
  held_at field key small =
      ap (λ (f : List ℕ). f ++ held_key flags paths (field_in (field_bytes field ++ key)) (drop 4 (field_bytes field ++ key))) (front_is field key)
      ∙ ap (λ (n : ℕ). field_bytes field ++ held_key flags paths n (drop 4 (field_bytes field ++ key))) (field_of_bytes field key small)
      ∙ ap (λ (k : List ℕ). field_bytes field ++ held_key flags paths field k) (behind_field field key)

  pub held_resolved : (held : List ℕ) → IsHeldTerm flags paths held → held_of (resolved flags paths held) ≡ held
  held_resolved held h = subst (λ (t : List ℕ). held_of (resolved flags paths t) ≡ t) (sym h.is) (by (is_json_field flags h.field) refl)
    where
      by : (b : Bool) → is_json_field flags h.field ≡ b → held_of (resolved flags paths (field_bytes h.field ++ h.value)) ≡ field_bytes h.field ++ h.value
      by false is =
          ap held_of (plain_resolved flags h.field h.value h.small paths is) ∙ held_at h.field h.value h.small
          ∙ ap (λ (b : Bool). field_bytes h.field ++ cond b (held_value (path_id paths (path_in h.value)) (behind_path h.value)) h.value) is
      by true is =
          let i = h.ids is in
          ap held_of (json_resolved flags h.field h.value h.small paths i.id i.typed_value is i.is i.small)
          ∙ held_at h.field (json_key (slice_index_or paths i.id []) i.typed_value) h.small
          ∙ ap (λ (v : List ℕ). field_bytes h.field ++ v) (held_back h.field i.id i.typed_value is i.known ∙ sym i.is)

  -- so terms of one key are one
  pub resolved_once : (s t : List ℕ) → IsHeldTerm flags paths s → IsHeldTerm flags paths t → resolved flags paths s ≡ resolved flags paths t → s ≡ t
  resolved_once s t hs ht same = sym (held_resolved s hs) ∙ ap held_of same ∙ held_resolved t ht

  pub resolved_alike : (s t : List ℕ) → IsHeldTerm flags paths s → IsHeldTerm flags paths t → bytes_eq (resolved flags paths s) (resolved flags paths t) ≡ bytes_eq s t
  resolved_alike s t hs ht = by (bytes_eq s t) (bytes_eq (resolved flags paths s) (resolved flags paths t)) refl refl
    where
      by : (a b : Bool) → bytes_eq s t ≡ a → bytes_eq (resolved flags paths s) (resolved flags paths t) ≡ b → b ≡ a
      by true b same is = sym is ∙ ap (λ (x : List ℕ). bytes_eq (resolved flags paths x) (resolved flags paths t)) ((bytes_eq-Decides s t).0 same) ∙ bytes_same (resolved flags paths t)
      by false true other is = sym ((bytes_eq-Decides s t).1 (resolved_once s t hs ht ((bytes_eq-Decides _ _).0 is))) ∙ other
      by false false other is = refl

-- the order of terms by ranks is that of their keys
cmp_fronts : (f g x y : List ℕ) → length f ≡ length g → slice_cmp nat_cmp (f ++ x) (g ++ y) ≡ ordering_then (slice_cmp nat_cmp f g) (slice_cmp nat_cmp x y)
cmp_fronts [] [] x y same = refl
cmp_fronts [] (b ∷ g) x y same = absurd (omega (arith, same))
cmp_fronts (a ∷ f) [] x y same = absurd (omega (arith, same))
cmp_fronts (a ∷ f) (b ∷ g) x y same = by (nat_cmp a b) (cmp_fronts f g x y (omega (arith, same)))
  where
    by : (o : Ordering) → slice_cmp nat_cmp (f ++ x) (g ++ y) ≡ ordering_then (slice_cmp nat_cmp f g) (slice_cmp nat_cmp x y)
        → ordering_then o (slice_cmp nat_cmp (f ++ x) (g ++ y)) ≡ ordering_then (ordering_then o (slice_cmp nat_cmp f g)) (slice_cmp nat_cmp x y)
    by Less h = refl
    by Equal h = h
    by Greater h = refl

contains_at : (paths : List (List ℕ)) (i : ℕ) → i < length paths → Contains paths (slice_index_or paths i [])
contains_at paths i within = (i, within, get_or_default paths i (slice_index_or paths i []) [] within)

module _ (flags : List Bool) (paths : List (List ℕ)) (clean : AreClean paths) where
  in_one_field : (field : ℕ) (v w : List ℕ) → field < 2 ^ 32 → (is_json_field flags field ≡ true → HoldsId paths v) → (is_json_field flags field ≡ true → HoldsId paths w)
      → let s = field_bytes field ++ v in let t = field_bytes field ++ w in
      ordering_then (nat_cmp (rank_of (path_ranks paths) (path_id_in flags s)) (rank_of (path_ranks paths) (path_id_in flags t))) (slice_cmp nat_cmp (behind_id flags s) (behind_id flags t))
      ≡ slice_cmp nat_cmp (key_with paths (path_id_in flags s) (behind_id flags s)) (key_with paths (path_id_in flags t) (behind_id flags t))
  in_one_field field v w small first second = by (is_json_field flags field) refl
    where
      by : (b : Bool) → is_json_field flags field ≡ b
          → let s = field_bytes field ++ v in let t = field_bytes field ++ w in
          ordering_then (nat_cmp (rank_of (path_ranks paths) (path_id_in flags s)) (rank_of (path_ranks paths) (path_id_in flags t))) (slice_cmp nat_cmp (behind_id flags s) (behind_id flags t))
          ≡ slice_cmp nat_cmp (key_with paths (path_id_in flags s) (behind_id flags s)) (key_with paths (path_id_in flags t) (behind_id flags t))
      by false is = rw (no_id flags field v small is, no_id flags field w small is) refl
      by true is =
          let i = first is in
          let j = second is in
          let x = i.typed_value in
          let y = j.typed_value in
          let p = slice_index_or paths i.id [] in
          let q = slice_index_or paths j.id [] in
          let first_rank : slice_index_or (path_ranks paths) i.id 0 ≡ path_rank paths p = get_or-map (path_rank paths) paths i.id [] 0 i.known in
          let second_rank : slice_index_or (path_ranks paths) j.id 0 ≡ path_rank paths q = get_or-map (path_rank paths) paths j.id [] 0 j.known in
          let keys = ranked_as_keys paths p q x y (contains_at paths i.id i.known) (contains_at paths j.id j.known) (clean_at paths i.id clean i.known) (clean_at paths j.id clean j.known) in
          rw (json_behind flags field v small i.id x is i.is i.small, json_behind flags field w small j.id y is j.is j.small, some_id flags field v small i.id x is i.is i.small, some_id flags field w small j.id y is j.is j.small, first_rank, second_rank)
          keys

  pub held_as_keys : (s t : List ℕ) → IsHeldTerm flags paths s → IsHeldTerm flags paths t → held_cmp flags (path_ranks paths) s t ≡ slice_cmp nat_cmp (resolved flags paths s) (resolved flags paths t)
  held_as_keys s t hs ht =
      subst (λ (a : List ℕ). held_cmp flags (path_ranks paths) a t ≡ slice_cmp nat_cmp (resolved flags paths a) (resolved flags paths t)) (sym hs.is)
      (subst (λ (b : List ℕ). held_cmp flags (path_ranks paths) (field_bytes hs.field ++ hs.value) b ≡ slice_cmp nat_cmp (resolved flags paths (field_bytes hs.field ++ hs.value)) (resolved flags paths b)) (sym ht.is) both)
    where
      a : List ℕ
      a = field_bytes hs.field ++ hs.value

      b : List ℕ
      b = field_bytes ht.field ++ ht.value

      ranked : Ordering
      ranked = nat_cmp (rank_of (path_ranks paths) (path_id_in flags a)) (rank_of (path_ranks paths) (path_id_in flags b))

      valued : Ordering
      valued = slice_cmp nat_cmp (behind_id flags a) (behind_id flags b)

      keyed : Ordering
      keyed = slice_cmp nat_cmp (key_with paths (path_id_in flags a) (behind_id flags a)) (key_with paths (path_id_in flags b) (behind_id flags b))

      as_long : length (front_of a) ≡ length (front_of b)
      as_long = ap length (front_is hs.field hs.value) ∙ length_field hs.field ∙ sym (length_field ht.field) ∙ sym (ap length (front_is ht.field ht.value))

      same_fields : slice_cmp nat_cmp (front_of a) (front_of b) ≡ Equal → hs.field ≡ ht.field
      same_fields is =
          let fronts : field_bytes hs.field ≡ field_bytes ht.field = sym (front_is hs.field hs.value) ∙ same_path (front_of a) (front_of b) is ∙ front_is ht.field ht.value in
          sym (field_of_bytes hs.field [] hs.small) ∙ ap (λ (f : List ℕ). field_in (f ++ [])) fronts ∙ field_of_bytes ht.field [] ht.small

      equal : hs.field ≡ ht.field → ordering_then ranked valued ≡ keyed
      equal is =
          let inside = in_one_field hs.field hs.value ht.value hs.small hs.ids (λ flag. ht.ids (subst (λ (f : ℕ). is_json_field flags f ≡ true) is flag)) in
          subst (λ (f : ℕ). let t = field_bytes f ++ ht.value in
          ordering_then (nat_cmp (rank_of (path_ranks paths) (path_id_in flags a)) (rank_of (path_ranks paths) (path_id_in flags t))) (slice_cmp nat_cmp (behind_id flags a) (behind_id flags t))
          ≡ slice_cmp nat_cmp (key_with paths (path_id_in flags a) (behind_id flags a)) (key_with paths (path_id_in flags t) (behind_id flags t))) is inside

      by : (o : Ordering) → slice_cmp nat_cmp (front_of a) (front_of b) ≡ o → ordering_then (ordering_then o ranked) valued ≡ ordering_then o keyed
      by Less is = refl
      by Equal is = equal (same_fields is)
      by Greater is = refl

      both : held_cmp flags (path_ranks paths) a b ≡ slice_cmp nat_cmp (resolved flags paths a) (resolved flags paths b)
      both = by (slice_cmp nat_cmp (front_of a) (front_of b)) refl ∙ sym (cmp_fronts (front_of a) (front_of b) (key_with paths (path_id_in flags a) (behind_id flags a)) (key_with paths (path_id_in flags b) (behind_id flags b)) as_long)
