-- What numbers say about documents, with one more number at the end, or from the first one on.
use Rattle.std.proofs.Common.{◌≡◌, ℕ, zero, suc, ◌+◌, ◌≤◌, List, [], ◌∷◌, ◌++◌, length, take, drop, Option, Some, None, refl, sym, ap, ◌∙◌, arith, append-nil, append_assoc}
use Rattle.std.specs.Prelude.{slice_get, unwrap_or}
use Rattle.std.specs.List.{sum}
use Rattle.std.proofs.lemmas.List.Sums.{sum_by-append, sum_by-cons}
use Rattle.ii_codes.specs.Sums.{running_sums}
use Rattle.ii_base.specs.Entries.{Entry, counted}
use Rattle.ii_recorder.specs.Gathered.{Gathered, all_of, behind_positions, count_read, counted_all, first_positions, gathered, located_at, more_positions, none_after, position_read, with_count, with_number}

pub gathered_more : (step : Gathered → ℕ → Gathered) (g : Gathered) (ns : List ℕ) (n : ℕ) → gathered step g (ns ++ n ∷ []) ≡ step (gathered step g ns) n
gathered_more step g [] n = refl
gathered_more step g (m ∷ ns) n = gathered_more step (step g m) ns n

-- documents that were read before
abbrev pub after : List Entry → Gathered → Gathered
after xs g = record { closed = xs ++ g.closed; pending = g.pending; last = g.last }

read_after : (step : Gathered → ℕ → Gathered) → ((xs : List Entry) (g : Gathered) (n : ℕ) → step (after xs g) n ≡ after xs (step g n))
    → (xs : List Entry) (g : Gathered) (ns : List ℕ) → gathered step (after xs g) ns ≡ after xs (gathered step g ns)
read_after step same xs g [] = refl
read_after step same xs g (n ∷ ns) = ap (λ (h : Gathered). gathered step h ns) (same xs g n) ∙ read_after step same xs (step g n) ns

count_after : (xs closed : List Entry) (pending : Option Entry) (last n : ℕ) → count_read (xs ++ closed) pending last n ≡ after xs (count_read closed pending last n)
count_after xs closed None last n = refl
count_after xs closed (Some e) last n = ap (λ (es : List Entry). record { closed = es; pending = None; last = last }) (append_assoc xs closed (counted e.doc n ∷ []))

position_after : (xs closed : List Entry) (pending : Option Entry) (last n : ℕ) → position_read (xs ++ closed) pending last n ≡ after xs (position_read closed pending last n)
position_after xs closed None last n = refl
position_after xs closed (Some e) last zero = ap (λ (es : List Entry). record { closed = es; pending = None; last = last }) (append_assoc xs closed (e ∷ []))
position_after xs closed (Some e) last (suc p) = refl

-- what is read after one document
pub counts_behind : (e : Entry) (last : ℕ) (ns : List ℕ) → gathered with_count (record { closed = e ∷ []; pending = None; last = last }) ns ≡ after (e ∷ []) (gathered with_count (none_after last) ns)
counts_behind e last ns = read_after with_count (λ xs g n. count_after xs g.closed g.pending g.last n) (e ∷ []) (none_after last) ns

pub positions_behind : (e : Entry) (last : ℕ) (ns : List ℕ) → gathered with_number (record { closed = e ∷ []; pending = None; last = last }) ns ≡ after (e ∷ []) (gathered with_number (none_after last) ns)
positions_behind e last ns = read_after with_number (λ xs g n. position_after xs g.closed g.pending g.last n) (e ∷ []) (none_after last) ns

more_assoc : (e : Entry) (p : ℕ) (ps : List ℕ) → more_positions (more_positions e (p ∷ [])) ps ≡ more_positions e (p ∷ ps)
more_assoc e p ps =
    let count : e.term_freq + 1 + length ps ≡ e.term_freq + suc (length ps) = omega arith in
    rw (count, append_assoc e.positions (p ∷ []) ps) refl

-- a document whose positions are read to their end
pub positions_read : (xs : List Entry) (e : Entry) (last : ℕ) (ns : List ℕ)
    → all_of (gathered with_number (record { closed = xs; pending = Some e; last = last }) ns) ≡ all_of (gathered with_number (record { closed = xs ++ more_positions e (first_positions ns) ∷ []; pending = None; last = last }) (behind_positions ns))
positions_read xs e last [] =
    let none : e.term_freq + 0 ≡ e.term_freq = omega arith in
    rw (none, append-nil e.positions) (sym (append-nil (xs ++ e ∷ [])))
positions_read xs e last (zero ∷ ns) =
    let none : e.term_freq + 0 ≡ e.term_freq = omega arith in
    rw (none, append-nil e.positions) refl
positions_read xs e last (suc p ∷ ns) =
    positions_read xs (more_positions e (p ∷ [])) last ns
    ∙ ap (λ (f : Entry). all_of (gathered with_number (record { closed = xs ++ f ∷ []; pending = None; last = last }) (behind_positions ns))) (more_assoc e p (first_positions ns))

-- the first document of numbers with frequencies, and those after it
pub counts_step : (count last d : ℕ) (ns : List ℕ)
    → counted_all count (gathered with_count (none_after last) (d ∷ ns)) ≡ counted (last + d) (unwrap_or (slice_get ns 0) count) ∷ counted_all count (gathered with_count (none_after (last + d)) (drop 1 ns))
counts_step count last d [] = refl
counts_step count last d (n ∷ ns) = ap (counted_all count) (counts_behind (counted (last + d) n) (last + d) ns)

located_is : (doc : ℕ) (ps : List ℕ) → more_positions (counted doc 0) ps ≡ located_at doc ps
located_is doc ps =
    let count : 0 + length ps ≡ length ps = omega arith in
    ap (λ (n : ℕ). record { doc = doc; term_freq = n; positions = ps }) count

-- the first document of numbers with positions, and those after it
pub positions_step : (last d : ℕ) (ns : List ℕ)
    → all_of (gathered with_number (none_after last) (d ∷ ns)) ≡ located_at (last + d) (first_positions ns) ∷ all_of (gathered with_number (none_after (last + d)) (behind_positions ns))
positions_step last d ns =
    positions_read [] (counted (last + d) 0) (last + d) ns
    ∙ ap (λ (e : Entry). all_of (gathered with_number (record { closed = e ∷ []; pending = None; last = last + d }) (behind_positions ns))) (located_is (last + d) (first_positions ns))
    ∙ ap all_of (positions_behind (located_at (last + d) (first_positions ns)) (last + d) (behind_positions ns))

pub counts_left : (count last d n : ℕ) (all ns rest : List ℕ) → all ≡ d ∷ ns → n ≡ unwrap_or (slice_get ns 0) count → rest ≡ drop 1 ns
    → counted_all count (gathered with_count (none_after last) all) ≡ counted (last + d) n ∷ counted_all count (gathered with_count (none_after (last + d)) rest)
counts_left count last d n all ns rest first number others = rw (first, number, others) (counts_step count last d ns)

pub positions_left : (last d : ℕ) (all ns : List ℕ) → all ≡ d ∷ ns
    → all_of (gathered with_number (none_after last) all) ≡ located_at (last + d) (first_positions ns) ∷ all_of (gathered with_number (none_after (last + d)) (behind_positions ns))
positions_left last d all ns first = rw first (positions_step last d ns)

-- numbers after the positions are no more than before
pub fewer_behind : (ns : List ℕ) → length (behind_positions ns) ≤ length ns
fewer_behind [] = omega arith
fewer_behind (zero ∷ ns) = omega arith
fewer_behind (suc p ∷ ns) = let rest = fewer_behind ns in omega (arith, rest)

-- documents by their deltas: those before the last one, and the last one
pub sums_split : (before d : ℕ) (ds : List ℕ) → running_sums before (d ∷ ds) ≡ take (length ds) (running_sums before (d ∷ ds)) ++ (before + sum (d ∷ ds)) ∷ []
sums_split before d [] =
    let one : sum (d ∷ []) ≡ d + sum [] = sum_by-cons (λ (n : ℕ). n) d [] in
    ap (λ (n : ℕ). n ∷ []) (omega (arith, one))
sums_split before d (e ∷ ds) =
    let total : sum (d ∷ e ∷ ds) ≡ d + sum (e ∷ ds) = sum_by-cons (λ (n : ℕ). n) d (e ∷ ds) in
    let value : (before + d) + sum (e ∷ ds) ≡ before + sum (d ∷ e ∷ ds) = omega (arith, total) in
    ap (λ (xs : List ℕ). (before + d) ∷ xs) (sums_split (before + d) e ds ∙ ap (λ (n : ℕ). take (length ds) (running_sums (before + d) (e ∷ ds)) ++ n ∷ []) value)

-- and one more delta
pub sums_more : (before : ℕ) (ds : List ℕ) (d : ℕ) → running_sums before (ds ++ d ∷ []) ≡ running_sums before ds ++ (before + sum ds + d) ∷ []
sums_more before [] d =
    let none : before + d ≡ before + sum [] + d = omega arith in
    ap (λ (n : ℕ). n ∷ []) none
sums_more before (e ∷ ds) d =
    let total : sum (e ∷ ds) ≡ e + sum ds = sum_by-cons (λ (n : ℕ). n) e ds in
    let value : (before + e) + sum ds + d ≡ before + sum (e ∷ ds) + d = omega (arith, total) in
    ap (λ (xs : List ℕ). (before + e) ∷ xs) (sums_more (before + e) ds d ∙ ap (λ (n : ℕ). running_sums (before + e) ds ++ n ∷ []) value)

pub sum_more : (ds : List ℕ) (d : ℕ) → sum (ds ++ d ∷ []) ≡ sum ds + d
sum_more ds d =
    let one : sum (d ∷ []) ≡ d + sum [] = sum_by-cons (λ (n : ℕ). n) d [] in
    omega (arith, one, sum_by-append (λ (n : ℕ). n) ds (d ∷ []))
