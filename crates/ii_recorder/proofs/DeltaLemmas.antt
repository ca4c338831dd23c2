-- Positions that don't decrease, and their deltas.
use Rattle.std.proofs.Common.{append-nil, zero, ◌≡◌, ℕ, suc, ◌+◌, ◌-◌, ◌^◌, ◌<◌, ◌≤◌, true, List, [], ◌∷◌, ◌++◌, length, map, Option, Some, None, refl, sym, ap, ◌∙◌, arith, get_or, length-append}
use Rattle.std.specs.Option.{option_to_list}
use Rattle.std.specs.List.{AllByRecursion, list_all, sum}
use Rattle.std.proofs.Math.Seq.{drop-append_seam, take-append_seam}
use Rattle.std.proofs.lemmas.List.{map-append}
use Rattle.std.proofs.lemmas.List.Sums.{sum_by-append, sum_by-cons}
use Rattle.ii_codes.specs.Sums.{DoNotFall, differences, fit_u32}
use Rattle.ii_codes.proofs.SortedVintLemmas.{fit_u32-all, running_sums-differences, length-differences}
use Rattle.ii_base.specs.Entries.{Entry, counted}
use Rattle.ii_layout.specs.Positions.{positions_of}
use Rattle.ii_recorder.specs.Gathered.{Gathered, all_of, gathered, more_positions, none_after, position_read, positions_in, with_number}
use Rattle.ii_recorder.specs.Kept.{IsLocated}
use Rattle.ii_recorder.specs.Pushed.{HaveDeltas, counts_of, pushed_deltas}
use Rattle.ii_recorder.specs.Recorded.{last_position}

-- the last of the numbers, or the one before them
abbrev last_from : ℕ → List ℕ → ℕ
last_from before [] = before
last_from before (q ∷ qs) = last_from q qs

-- one more position that isn't below the last
fall_not_more : (before : ℕ) (ps : List ℕ) (p : ℕ) → DoNotFall before ps → last_from before ps ≤ p → DoNotFall before (ps ++ p ∷ [])
fall_not_more before [] p h last = (last, tt)
fall_not_more before (q ∷ qs) p h last = (h.0, fall_not_more q qs p h.1 last)

last_is : (q : ℕ) (qs : List ℕ) → last_position (q ∷ qs) ≡ last_from q qs
last_is q [] = refl
last_is q (r ∷ rs) =
    let place : length (q ∷ r ∷ rs) - 1 ≡ suc (length rs) = omega arith in
    let next : length (r ∷ rs) - 1 ≡ length rs = omega arith in
    rw place (sym (ap (λ (k : ℕ). get_or (r ∷ rs) k 0) next) ∙ last_is r rs)

last_of_all : (ps : List ℕ) → last_from 0 ps ≡ last_position ps
last_of_all [] = refl
last_of_all (q ∷ qs) = sym (last_is q qs)

abbrev Fit : List ℕ → Type 0
Fit ps = AllByRecursion (λ p. p < 2 ^ 32) ps

fit_both : (xs ys : List ℕ) → Fit xs → Fit ys → Fit (xs ++ ys)
fit_both [] ys h k = k
fit_both (x ∷ xs) ys h k = (h.0, fit_both xs ys h.1 k)

fit_differences : (before : ℕ) (vs : List ℕ) → Fit vs → Fit (differences before vs)
fit_differences before [] h = tt
fit_differences before (v ∷ vs) h = let fits = h.0 in (omega arith, fit_differences v vs h.1)

many_deltas : (es : List Entry) → AllByRecursion IsLocated es → length (pushed_deltas es) ≡ sum (counts_of es)
many_deltas [] h = refl
many_deltas (e ∷ es) h =
    let here = h.0.0 in
    let len = length-differences 0 e.positions in
    let total : sum (counts_of (e ∷ es)) ≡ e.term_freq + sum (counts_of es) = sum_by-cons (λ (n : ℕ). n) e.term_freq (counts_of es) in
    let more = length-append (differences 0 e.positions) (pushed_deltas es) in
    let rest = many_deltas es h.1 in
    omega arith

fit_deltas : (es : List Entry) → AllByRecursion IsLocated es → Fit (pushed_deltas es)
fit_deltas [] h = tt
fit_deltas (e ∷ es) h = fit_both (differences 0 e.positions) (pushed_deltas es) (fit_differences 0 e.positions h.0.2) (fit_deltas es h.1)

fit_positions : (es : List Entry) → AllByRecursion IsLocated es → list_all fit_u32 (map (λ (e : Entry). e.positions) es) ≡ true
fit_positions [] h = refl
fit_positions (e ∷ es) h = rw (fit_u32-all e.positions h.0.2, fit_positions es h.1) refl

give_positions : (es : List Entry) → AllByRecursion IsLocated es → positions_of (counts_of es) (pushed_deltas es) ≡ map (λ (e : Entry). e.positions) es
give_positions [] h = refl
give_positions (e ∷ es) h =
    let len : length (differences 0 e.positions) ≡ e.term_freq = length-differences 0 e.positions ∙ h.0.0 in
    rw (← len, take-append_seam (differences 0 e.positions) (pushed_deltas es), drop-append_seam (differences 0 e.positions) (pushed_deltas es), running_sums-differences 0 e.positions h.0.1, give_positions es h.1) refl

-- the deltas of documents whose positions are as many as they count, and don't fall
pub have_deltas : (es : List Entry) → AllByRecursion IsLocated es → sum (counts_of es) < 2 ^ 64 → HaveDeltas es
have_deltas es all few =
    let give = give_positions es all in
    record {
      deltas = record { many = many_deltas es all; small = fit_deltas es all; few = omega (arith, few, many_deltas es all); fit = rw give (fit_positions es all) };
      give = give;
    }

-- a document with one more position, which isn't below the last
pub located_more : (e : Entry) (p : ℕ) → IsLocated e → last_position e.positions ≤ p → p < 2 ^ 32 → IsLocated (more_positions e (p ∷ []))
located_more e p h low fits =
    let len = length-append e.positions (p ∷ []) in
    let last : last_from 0 e.positions ≤ p = rw (last_of_all e.positions) low in
    (omega (arith, len, h.0), fall_not_more 0 e.positions p h.1 last, fit_both e.positions (p ∷ []) h.2 (fits, tt))

last_at : (qs : List ℕ) (p : ℕ) → get_or (qs ++ p ∷ []) (length qs) 0 ≡ p
last_at [] p = refl
last_at (q ∷ qs) p = last_at qs p

pub last_position_more : (ps : List ℕ) (p : ℕ) → last_position (ps ++ p ∷ []) ≡ p
last_position_more [] p = refl
last_position_more (q ∷ qs) p =
    let place : length ((q ∷ qs) ++ p ∷ []) - 1 ≡ length (q ∷ qs) = omega (arith, length-append (q ∷ qs) (p ∷ [])) in
    ap (λ (n : ℕ). get_or ((q ∷ qs) ++ p ∷ []) n 0) place ∙ last_at (q ∷ qs) p

-- how many positions entries have together
abbrev weight : List Entry → ℕ
weight es = sum (counts_of es)

weight_push : (es : List Entry) (e : Entry) → weight (es ++ e ∷ []) ≡ weight es + e.term_freq
weight_push es e =
    let one : sum (e.term_freq ∷ []) ≡ e.term_freq + sum [] = sum_by-cons (λ (n : ℕ). n) e.term_freq [] in
    ap sum (map-append (λ (f : Entry). f.term_freq) es (e ∷ [])) ∙ sum_by-append (λ (n : ℕ). n) (counts_of es) (e.term_freq ∷ []) ∙ omega (arith, one)

-- a number adds one position at most
weight_step : (closed : List Entry) (pending : Option Entry) (last n : ℕ) → weight (all_of (position_read closed pending last n)) ≤ weight (closed ++ option_to_list pending) + 1
weight_step closed None last n =
    let none = ap weight (append-nil closed) in
    let one = weight_push closed (counted (last + n) 0) in
    omega (arith, none, one)
weight_step closed (Some e) last zero =
    let none = ap weight (append-nil (closed ++ e ∷ [])) in
    omega (arith, none)
weight_step closed (Some e) last (suc p) =
    let before = weight_push closed e in
    let now = weight_push closed (more_positions e (p ∷ [])) in
    omega (arith, before, now)

weight_read : (g : Gathered) (ns : List ℕ) → weight (all_of (gathered with_number g ns)) ≤ weight (all_of g) + length ns
weight_read g [] = omega arith
weight_read g (n ∷ ns) =
    let first = weight_step g.closed g.pending g.last n in
    let others = weight_read (with_number g n) ns in
    omega (arith, first, others)

-- there are no more positions than numbers
pub few_positions : (ns : List ℕ) → sum (counts_of (all_of (positions_in ns))) ≤ length ns
few_positions ns = let all = weight_read (none_after 0) ns in omega (arith, all)
