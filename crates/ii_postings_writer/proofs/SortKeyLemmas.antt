-- Terms that are compared by numbers first are compared as by their bytes.
use Rattle.std.proofs.Common.{◌≡◌, ◌∙◌, ℕ, zero, suc, ◌+◌, ◌*◌, ◌^◌, ◌<◌, ◌≤◌, List, [], ◌∷◌, length, refl, sym, ap, arith, ◌⊎◌, inl, inr, Bool, subst, take, drop, get_or, ◌++◌, length-append, slice_get, Some}
use Rattle.std.proofs.Common.{Ordering, Less, Equal, Greater}
use Rattle.std.proofs.Math.Nat.{mul-le-mul_right}
use Rattle.std.specs.Cmp.Lexicographic.{slice_cmp}
use Rattle.std.specs.Ordering.{nat_cmp, ordering_reverse, ordering_then}
use Rattle.std.specs.Cmp.{nat_cmp_is}
use Rattle.std.proofs.lemmas.Bool.{cases_order}
use Rattle.std.proofs.lemmas.Cmp.{nat_cmp_total, nat_list_cmp_total}
use Rattle.std.specs.Cmp.{IsStrictWeakOrder}
use Rattle.std.specs.List.{All, AllByRecursion}
use Rattle.std.specs.List.Sorted.{IsPermutation}
use Rattle.std.specs.Map.{keys_of}
use Rattle.std.specs.Ordering.{is_lt}
use Rattle.std.proofs.lemmas.Cmp.{on_total, then_total}
use Rattle.std.proofs.lemmas.List.{get_or-drop, map-id}
use Rattle.std.proofs.lemmas.List.Elements.{All-from_recursion, All-tail, recursion_from_All}
use Rattle.std.proofs.lemmas.Map.Views.{All-map-IsPermutation}
use Rattle.std.proofs.lemmas.List.MinMax.{ranks_by}
use Rattle.ii_postings_writer.specs.declared.sorted_terms.KeptTerm.{KeptTerm}
use Rattle.ii_postings_writer.specs.IndexingTerm.{AreTermBytes, field_bytes, field_in}
use Rattle.ii_postings_writer.specs.ResolvedTerms.{behind_id, front_of, held_cmp, path_id_in, rank_of, value_place}
use Rattle.ii_postings_writer.proofs.SortedLemmas.{nat_cmp-refl}
use Rattle.ii_postings_writer.proofs.TermLemmas.{length_field}
use Rattle.ii_postings_writer.specs.SortKeys.{IsKept, kept_cmp, padded_number}

-- Each is a byte.
abbrev pub AreBytes : List ℕ → Type 0
AreBytes xs = (i : ℕ) → get_or xs i 0 < 256

after_first : (x : ℕ) (xs : List ℕ) → AreBytes (x ∷ xs) → AreBytes xs
after_first x xs are = λ i. are (suc i)

below_power : (n : ℕ) (xs : List ℕ) → AreBytes xs → padded_number n xs < 256 ^ n
below_power zero xs are = omega arith
below_power (suc n) [] are = omega (arith, below_power n [] (λ i. are i))
below_power (suc n) (b ∷ xs) are =
    let within : (b + 1) * 256 ^ n ≤ 256 * 256 ^ n = mul-le-mul_right (256 ^ n) (omega (arith, are 0)) in
    omega (arith, below_power n xs (after_first b xs are), within)

-- of two numbers of two digits the greater one has the greater first digit, or the greater second one
two_digits : (power x y s t : ℕ) → s < power → t < power → x * power + s < y * power + t → (x < y) ⊎ ((x ≡ y) × (s < t))
two_digits power x y s t first second below = by (cases_order x y)
  where
    by : (x ≡ y) ⊎ ((x < y) ⊎ (y < x)) → (x < y) ⊎ ((x ≡ y) × (s < t))
    by (inl same) = inr (same, omega (arith, subst (λ (d : ℕ). d * power + s < y * power + t) same below))
    by (inr (inl less)) = inl less
    by (inr (inr greater)) =
        let within : (y + 1) * power ≤ x * power = mul-le-mul_right power (omega (arith, greater)) in
        absurd (omega (arith, within, second, below))

nat_less : (x y : ℕ) → x < y → nat_cmp x y ≡ Less
nat_less x y less = sym (nat_cmp_is x y Less less)

-- bytes with the lower number come first
number_below : (n : ℕ) (xs ys : List ℕ) → AreBytes xs → AreBytes ys → padded_number n xs < padded_number n ys → slice_cmp nat_cmp xs ys ≡ Less
number_below zero xs ys are also below = absurd (omega (arith, below))
number_below (suc n) [] [] are also below = absurd (omega (arith, below))
number_below (suc n) [] (y ∷ ys) are also below = refl
number_below (suc n) (x ∷ xs) [] are also below = absurd (omega (arith, below))
number_below (suc n) (x ∷ xs) (y ∷ ys) are also below =
    by (two_digits (256 ^ n) x y (padded_number n xs) (padded_number n ys) (below_power n xs (after_first x xs are)) (below_power n ys (after_first y ys also)) below) (number_below n xs ys (after_first x xs are) (after_first y ys also))
  where
    by : (x < y) ⊎ ((x ≡ y) × (padded_number n xs < padded_number n ys)) → (padded_number n xs < padded_number n ys → slice_cmp nat_cmp xs ys ≡ Less) → slice_cmp nat_cmp (x ∷ xs) (y ∷ ys) ≡ Less
    by (inl less) more = rw (nat_less x y less) refl
    by (inr (same, less)) more = rw (same, nat_cmp-refl y) (more less)

-- bytes of one length with the same number are the same
number_same : (n : ℕ) (xs ys : List ℕ) → AreBytes xs → AreBytes ys → length xs ≡ length ys → length xs ≤ n → padded_number n xs ≡ padded_number n ys → slice_cmp nat_cmp xs ys ≡ Equal
number_same n [] [] are also len within same = refl
number_same n [] (y ∷ ys) are also len within same = absurd (omega (arith, len))
number_same n (x ∷ xs) [] are also len within same = absurd (omega (arith, len))
number_same zero (x ∷ xs) (y ∷ ys) are also len within same = absurd (omega (arith, within))
number_same (suc n) (x ∷ xs) (y ∷ ys) are also len within same = by (cases_order x y) (number_same n xs ys (after_first x xs are) (after_first y ys also) (omega (arith, len)) (omega (arith, within)))
  where
    first : padded_number n xs < 256 ^ n
    first = below_power n xs (after_first x xs are)

    second : padded_number n ys < 256 ^ n
    second = below_power n ys (after_first y ys also)

    by : (x ≡ y) ⊎ ((x < y) ⊎ (y < x)) → (padded_number n xs ≡ padded_number n ys → slice_cmp nat_cmp xs ys ≡ Equal) → slice_cmp nat_cmp (x ∷ xs) (y ∷ ys) ≡ Equal
    by (inl one) more = rw (one, nat_cmp-refl y) (more (omega (arith, subst (λ (d : ℕ). d * 256 ^ n + padded_number n xs ≡ y * 256 ^ n + padded_number n ys) one same)))
    by (inr (inl less)) more =
        let above : (x + 1) * 256 ^ n ≤ y * 256 ^ n = mul-le-mul_right (256 ^ n) (omega (arith, less)) in
        absurd (omega (arith, above, first, same))
    by (inr (inr greater)) more =
        let above : (y + 1) * 256 ^ n ≤ x * 256 ^ n = mul-le-mul_right (256 ^ n) (omega (arith, greater)) in
        absurd (omega (arith, above, second, same))

-- the numbers decide, and the bytes where they are the same
pub by_number : (n : ℕ) (xs ys : List ℕ) → AreBytes xs → AreBytes ys → ordering_then (nat_cmp (padded_number n xs) (padded_number n ys)) (slice_cmp nat_cmp xs ys) ≡ slice_cmp nat_cmp xs ys
by_number n xs ys are also = by (cases_order (padded_number n xs) (padded_number n ys))
  where
    a : ℕ
    a = padded_number n xs

    b : ℕ
    b = padded_number n ys

    by : (a ≡ b) ⊎ ((a < b) ⊎ (b < a)) → ordering_then (nat_cmp a b) (slice_cmp nat_cmp xs ys) ≡ slice_cmp nat_cmp xs ys
    by (inl same) = rw (same, nat_cmp-refl b) refl
    by (inr (inl less)) = rw (nat_less a b less, number_below n xs ys are also less) refl
    by (inr (inr greater)) =
        let first : slice_cmp nat_cmp xs ys ≡ Greater = nat_list_cmp_total.antisymm xs ys ∙ ap ordering_reverse (number_below n ys xs also are greater) in
        let second : nat_cmp a b ≡ Greater = sym (nat_cmp_is a b Greater greater) in
        rw (second, first) refl

-- bytes of one length that fit are compared by their numbers
pub by_number_alone : (n : ℕ) (xs ys : List ℕ) → AreBytes xs → AreBytes ys → length xs ≡ length ys → length xs ≤ n → nat_cmp (padded_number n xs) (padded_number n ys) ≡ slice_cmp nat_cmp xs ys
by_number_alone n xs ys are also len within = by (cases_order (padded_number n xs) (padded_number n ys))
  where
    a : ℕ
    a = padded_number n xs

    b : ℕ
    b = padded_number n ys

    by : (a ≡ b) ⊎ ((a < b) ⊎ (b < a)) → nat_cmp a b ≡ slice_cmp nat_cmp xs ys
    by (inl same) = rw (same, nat_cmp-refl b, number_same n xs ys are also len within same) refl
    by (inr (inl less)) = rw (nat_less a b less, number_below n xs ys are also less) refl
    by (inr (inr greater)) = sym (nat_cmp_is a b Greater greater) ∙ sym (nat_list_cmp_total.antisymm xs ys ∙ ap ordering_reverse (number_below n ys xs also are greater))

then_assoc : (a b c : Ordering) → ordering_then (ordering_then a b) c ≡ ordering_then a (ordering_then b c)
then_assoc Less b c = refl
then_assoc Equal b c = refl
then_assoc Greater b c = refl

taken_bytes : (n : ℕ) (xs : List ℕ) → AreBytes xs → AreBytes (take n xs)
taken_bytes zero xs are i = omega arith
taken_bytes (suc n) [] are i = are i
taken_bytes (suc n) (x ∷ xs) are zero = are 0
taken_bytes (suc n) (x ∷ xs) are (suc i) = taken_bytes n xs (after_first x xs are) i

dropped_bytes : (n : ℕ) (xs : List ℕ) → AreBytes xs → AreBytes (drop n xs)
dropped_bytes n xs are i = rw (get_or-drop n xs i 0) (are (n + i))

front_len : (bytes : List ℕ) → 4 ≤ length bytes → length (take 4 bytes) ≡ 4
front_len [] long = absurd (omega (arith, long))
front_len (a ∷ []) long = absurd (omega (arith, long))
front_len (a ∷ b ∷ []) long = absurd (omega (arith, long))
front_len (a ∷ b ∷ c ∷ []) long = absurd (omega (arith, long))
front_len (a ∷ b ∷ c ∷ d ∷ xs) long = refl

front_number : (bytes : List ℕ) → 4 ≤ length bytes → field_in bytes ≡ padded_number 4 (take 4 bytes)
unfolding field_in
front_number [] long = absurd (omega (arith, long))
front_number (a ∷ []) long = absurd (omega (arith, long))
front_number (a ∷ b ∷ []) long = absurd (omega (arith, long))
front_number (a ∷ b ∷ c ∷ []) long = absurd (omega (arith, long))
front_number (a ∷ b ∷ c ∷ d ∷ xs) long = omega arith

module _ (flags : List Bool) (ranks : List ℕ) (s t : KeptTerm) (first : IsKept flags ranks s) (second : IsKept flags ranks t) where
  fields_as_bytes : nat_cmp s.field t.field ≡ slice_cmp nat_cmp (front_of s.term.now) (front_of t.term.now)
  fields_as_bytes =
      let one = front_len s.term.now first.long in
      ap (λ (n : ℕ). nat_cmp n t.field) (first.field ∙ front_number s.term.now first.long)
      ∙ ap (nat_cmp (padded_number 4 (front_of s.term.now))) (second.field ∙ front_number t.term.now second.long)
      ∙ by_number_alone 4 (front_of s.term.now) (front_of t.term.now) (taken_bytes 4 s.term.now first.bytes) (taken_bytes 4 t.term.now second.bytes) (one ∙ sym (front_len t.term.now second.long)) (omega (arith, one))

  values_as_bytes : ordering_then (nat_cmp s.start t.start) (slice_cmp nat_cmp (behind_id flags s.term.now) (behind_id flags t.term.now)) ≡ slice_cmp nat_cmp (behind_id flags s.term.now) (behind_id flags t.term.now)
  values_as_bytes =
      let values = slice_cmp nat_cmp (behind_id flags s.term.now) (behind_id flags t.term.now) in
      ap (λ (n : ℕ). ordering_then (nat_cmp n t.start) values) first.start
      ∙ ap (λ (n : ℕ). ordering_then (nat_cmp (padded_number 8 (behind_id flags s.term.now)) n) values) second.start
      ∙ by_number 8 (behind_id flags s.term.now) (behind_id flags t.term.now) (dropped_bytes (value_place (path_id_in flags s.term.now)) s.term.now first.bytes) (dropped_bytes (value_place (path_id_in flags t.term.now)) t.term.now second.bytes)

  -- the order by numbers is that of the bytes
  pub kept_as_held : kept_cmp flags s t ≡ held_cmp flags ranks s.term.now t.term.now
  kept_as_held =
      let values = slice_cmp nat_cmp (behind_id flags s.term.now) (behind_id flags t.term.now) in
      let paths : nat_cmp s.rank t.rank ≡ nat_cmp (rank_of ranks (path_id_in flags s.term.now)) (rank_of ranks (path_id_in flags t.term.now)) = ap (λ (n : ℕ). nat_cmp n t.rank) first.rank ∙ ap (nat_cmp (rank_of ranks (path_id_in flags s.term.now))) second.rank in
      then_assoc (ordering_then (nat_cmp s.field t.field) (nat_cmp s.rank t.rank)) (nat_cmp s.start t.start) values
      ∙ ap (ordering_then (ordering_then (nat_cmp s.field t.field) (nat_cmp s.rank t.rank))) values_as_bytes
      ∙ ap (λ (o : Ordering). ordering_then (ordering_then o (nat_cmp s.rank t.rank)) values) fields_as_bytes
      ∙ ap (λ (o : Ordering). ordering_then (ordering_then (slice_cmp nat_cmp (front_of s.term.now) (front_of t.term.now)) o) values) paths

-- the order of terms that is asked of a sort
pub kept_order : (flags : List Bool) → IsStrictWeakOrder (λ (s t : KeptTerm). is_lt (kept_cmp flags s t))
kept_order flags =
    ranks_by
    (then_total (then_total (then_total (on_total (λ (t : KeptTerm). t.field) nat_cmp_total) (on_total (λ (t : KeptTerm). t.rank) nat_cmp_total)) (on_total (λ (t : KeptTerm). t.start) nat_cmp_total))
    (on_total (λ (t : KeptTerm). behind_id flags t.term.now) nat_list_cmp_total))
    (λ (t : KeptTerm). t)

-- what holds of each term holds where terms change places
pub kept_moved : (P : KeptTerm → Type 0) (old new : List KeptTerm) → IsPermutation old new → AllByRecursion P old → AllByRecursion P new
kept_moved P old new moved all =
    recursion_from_All P new
    (subst (All P) (map-id new) (All-map-IsPermutation (λ (t : KeptTerm). t) P old new moved (subst (All P) (sym (map-id old)) (All-from_recursion P old all))))

-- what holds of each key holds of that of an entry
keyed_at : {V : Type 0} (P : List ℕ → Type 0) (es : List (List ℕ × V)) (k : ℕ) (e : List ℕ × V) → All P (keys_of es) → slice_get es k ≡ Some e → P e.0
keyed_at P [] k e all at = absurd (cc)
keyed_at P (f ∷ fs) zero e all at = let same : f ≡ e = cc in subst (λ g. P g.0) same (all 0 f.0 (omega arith))
keyed_at P (f ∷ fs) (suc k) e all at = keyed_at P fs k e (All-tail P f.0 (keys_of fs) all) at

-- the bytes of a term hold its field
pub term_long : {V : Type 0} (es : List (List ℕ × V)) (k : ℕ) (e : List ℕ × V) (bytes : List ℕ) → All AreTermBytes (keys_of es) → slice_get es k ≡ Some e → bytes ≡ e.0 → 4 ≤ length bytes
term_long es k e bytes all at is =
    let term = keyed_at AreTermBytes es k e all at in
    omega (arith, ap length is, ap length term.are, length-append (field_bytes term.field) (drop 4 e.0), length_field term.field)

-- one more term
pub one_more_kept : (P : KeptTerm → Type 0) (old new : List KeptTerm) (t : KeptTerm) → AllByRecursion P old → P t → new ≡ old ++ t ∷ [] → AllByRecursion P new
one_more_kept P old new t all holds is = subst (AllByRecursion P) (sym is) (pushed old all)
  where
    pushed : (ts : List KeptTerm) → AllByRecursion P ts → AllByRecursion P (ts ++ t ∷ [])
    pushed [] none = (holds, tt)
    pushed (u ∷ us) each = (each.0, pushed us each.1)
