-- Positions that are read from a place on.
use Rattle.std.proofs.Common.{◌≡◌, ◌∙◌, ℕ, zero, suc, ◌+◌, ◌-◌, ◌<◌, ◌≤◌, true, List, [], ◌∷◌, ◌++◌, drop, get_or, length, take, inl, inr, refl, sym, ap, arith, length-take, length-drop}
use Rattle.std.specs.Prelude.{min, nat_lt}
use Rattle.std.proofs.lemmas.Bool.{and_parts, cases_lt}
use Rattle.std.proofs.lemmas.List.{drop-drop, drop_all, take_all}
use Rattle.ii_docset.specs.Cursor.{position_before}
use Rattle.ii_codes.specs.Sums.{fit_u32, running_sums}
use Rattle.ii_codes.proofs.LengthLemmas.{length-running_sums}

-- sums from a place on are those from the sum before them on
pub sums_from : (from offset : ℕ) (ds : List ℕ) → from ≤ length ds → drop from (running_sums offset ds) ≡ running_sums (get_or (offset ∷ running_sums offset ds) from 0) (drop from ds)
sums_from zero offset ds within = refl
sums_from (suc from) offset [] within = absurd (omega (arith, within))
sums_from (suc from) offset (d ∷ ds) within = sums_from from (offset + d) ds (omega (arith, within))

-- the first sums are those of the first values
pub first_sums : (n offset : ℕ) (ds : List ℕ) → take n (running_sums offset ds) ≡ running_sums offset (take n ds)
first_sums zero offset ds = refl
first_sums (suc n) offset [] = refl
first_sums (suc n) offset (d ∷ ds) = ap (λ (xs : List ℕ). (offset + d) ∷ xs) (first_sums n (offset + d) ds)

-- values in the middle of the first ones
middle : (n count start from : ℕ) (ds : List ℕ) → n + from ≤ count → take n (drop from (take count (drop start ds))) ≡ take n (drop (start + from) ds)
middle n count start from ds within = ap (take n) (moved from count (drop start ds)) ∙ firsts (drop from (drop start ds)) ∙ ap (take n) (drop-drop from start ds)
  where
    moved : (from count : ℕ) (xs : List ℕ) → drop from (take count xs) ≡ take (count - from) (drop from xs)
    moved zero count xs = let all : count ≡ count - 0 = omega arith in ap (λ (n : ℕ). take n xs) all
    moved (suc from) zero xs = let none : 0 ≡ 0 - suc from = omega arith in ap (λ (n : ℕ). take n (drop (suc from) xs)) none
    moved (suc from) (suc count) [] = sym (take_all (suc count - suc from) [] (omega arith))
    moved (suc from) (suc count) (x ∷ xs) = let left : count - from ≡ suc count - suc from = omega arith in moved from count xs ∙ ap (λ (n : ℕ). take n (drop from xs)) left

    least : (m k : ℕ) (xs : List ℕ) → m ≤ k → take m (take k xs) ≡ take m xs
    least zero k xs low = refl
    least (suc m) zero xs low = absurd (omega (arith, low))
    least (suc m) (suc k) [] low = refl
    least (suc m) (suc k) (x ∷ xs) low = ap (λ (ys : List ℕ). x ∷ ys) (least m k xs (omega (arith, low)))

    firsts : (xs : List ℕ) → take n (take (count - from) xs) ≡ take n xs
    firsts xs = least n (count - from) xs (omega (arith, within))

-- What is read of a range of positions, given where their deltas begin.
pub record IsPiece (deltas : List ℕ) (start count from before many room : ℕ) : Type 0 where
  pub inside : start + count ≤ length deltas
  pub within : from < count
  pub before_is : before ≡ position_before from (running_sums 0 (take count (drop start deltas)))
  pub many_is : many ≡ min room (count - from)

piece_sums : (deltas : List ℕ) (start count from before many room : ℕ) → IsPiece deltas start count from before many room
    → running_sums before (take many (drop (start + from) deltas)) ≡ take many (drop from (running_sums 0 (take count (drop start deltas))))
piece_sums deltas start count from before many room p =
    let within = p.within in
    let inside = p.inside in
    let many_is = p.many_is in
    let left = length-drop start deltas in
    let size = length-take count (drop start deltas) in
    let sums = sums_from from 0 (take count (drop start deltas)) (omega (arith, within, inside, left, size)) in
    sym (ap (take many) (sums ∙ ap (λ (b : ℕ). running_sums b (drop from (take count (drop start deltas)))) (sym p.before_is))
    ∙ first_sums many before (drop from (take count (drop start deltas)))
    ∙ ap (running_sums before) (middle many count start from deltas (omega (arith, within, many_is))))

take_fits : (n : ℕ) (xs : List ℕ) → fit_u32 xs ≡ true → fit_u32 (take n xs) ≡ true
take_fits zero xs fit = refl
take_fits (suc n) [] fit = refl
take_fits (suc n) (x ∷ xs) fit = let parts = and_parts (nat_lt x 4294967296) (fit_u32 xs) fit in rw (parts.0) (take_fits n xs parts.1)

drop_fits : (n : ℕ) (xs : List ℕ) → fit_u32 xs ≡ true → fit_u32 (drop n xs) ≡ true
drop_fits zero xs fit = fit
drop_fits (suc n) [] fit = refl
drop_fits (suc n) (x ∷ xs) fit = drop_fits n xs (and_parts (nat_lt x 4294967296) (fit_u32 xs) fit).1

pub piece_fits : (deltas : List ℕ) (start count from before many room : ℕ) → IsPiece deltas start count from before many room → fit_u32 (running_sums 0 (take count (drop start deltas))) ≡ true
    → fit_u32 (running_sums before (take many (drop (start + from) deltas))) ≡ true
piece_fits deltas start count from before many room p fit =
    ap fit_u32 (piece_sums deltas start count from before many room p) ∙ take_fits many _ (drop_fits from (running_sums 0 (take count (drop start deltas))) fit)

-- what the output holds then
pub piece_read : (deltas out : List ℕ) (start count from before many : ℕ) → IsPiece deltas start count from before many (length out)
    → running_sums before (take many (drop (start + from) deltas)) ++ drop many out ≡ take (length out) (drop from (running_sums 0 (take count (drop start deltas)))) ++ drop (count - from) out
piece_read deltas out start count from before many p =
    let ps = running_sums 0 (take count (drop start deltas)) in
    let within = p.within in
    let inside = p.inside in
    let many_is = p.many_is in
    let left = length-drop start deltas in
    let size = length-take count (drop start deltas) in
    let sums = length-running_sums 0 (take count (drop start deltas)) in
    let rest = length-drop from ps in
    elim (cases_lt (length out) (count - from)) [
      | inl few ↦
          let all : many ≡ length out = omega (arith, many_is, few) in
          ap (λ (xs : List ℕ). xs ++ drop many out) (piece_sums deltas start count from before many (length out) p)
          ∙ (λ j. take (all j) (drop from ps) ++ drop many out)
          ∙ ap (λ (xs : List ℕ). take (length out) (drop from ps) ++ xs) (drop_all many out (omega (arith, all)) ∙ sym (drop_all (count - from) out (omega (arith, few))))
      | inr room ↦
          let all : many ≡ count - from = omega (arith, many_is, room) in
          ap (λ (xs : List ℕ). xs ++ drop many out) (piece_sums deltas start count from before many (length out) p)
          ∙ (λ j. take many (drop from ps) ++ drop (all j) out)
          ∙ ap (λ (xs : List ℕ). xs ++ drop (count - from) out) (take_all many (drop from ps) (omega (arith, all, rest, sums, size, inside, left)) ∙ sym (take_all (length out) (drop from ps) (omega (arith, room, rest, sums, size, inside, left))))
    ]

-- there are as many positions as the count says
pub piece_length : (deltas : List ℕ) (start count : ℕ) → start + count ≤ length deltas → length (running_sums 0 (take count (drop start deltas))) ≡ count
piece_length deltas start count inside =
    let left = length-drop start deltas in
    let size = length-take count (drop start deltas) in
    let sums = length-running_sums 0 (take count (drop start deltas)) in
    omega (arith, inside, left, size, sums)

-- nothing is read from the end on
past_read : (ps out : List ℕ) (from count : ℕ) → length ps ≡ count → count ≤ from → out ≡ take (length out) (drop from ps) ++ drop (count - from) out
past_read ps out from count size past =
    let none : count - from ≡ 0 = omega (arith, past) in
    sym (ap (λ (xs : List ℕ). take (length out) xs ++ drop (count - from) out) (drop_all from ps (omega (arith, size, past))) ∙ ap (λ (xs : List ℕ). xs ++ drop (count - from) out) (take_all (length out) [] (omega arith)) ∙ ap (λ (n : ℕ). drop n out) none)

pub piece_past : (deltas out : List ℕ) (start count from : ℕ) → start + count ≤ length deltas → count ≤ from → out ≡ take (length out) (drop from (running_sums 0 (take count (drop start deltas)))) ++ drop (count - from) out
piece_past deltas out start count from inside past = past_read (running_sums 0 (take count (drop start deltas))) out from count (piece_length deltas start count inside) past

pub none_read : (ps out : List ℕ) (from : ℕ) → [] ≡ ps → out ≡ take (length out) (drop from ps) ++ drop (length ps - from) out
none_read ps out from none = past_read ps out from (length ps) refl (let size = ap length (sym none) in omega (arith, size))
