-- A merge of neighbours changes no token of an index.
use Rattle.std.proofs.Common.{◌≡◌, ℕ, ◌+◌, ◌<◌, ◌≤◌, Bool, true, false, List, [], ◌∷◌, ◌++◌, refl, sym, ap, ◌∙◌, arith, append_assoc}
use Rattle.std.specs.Prelude.{filter, map, replicate}
use Rattle.std.specs.List.{AllByRecursion}
use Rattle.std.proofs.lemmas.List.{get_or-replicate, take-replicate, map-append}
use Rattle.ii_alive.specs.Alive.{num_living, rank}
use Rattle.ii_alive.proofs.RankLemmas.{all_living, rank_below}
use Rattle.ii_definitions.specs.Tokens.{IndexToken}
use Rattle.ii_segments.specs.SegmentLaws.{MergeKeeps}
use Rattle.ii_segments.specs.Segments.{Segment, at_rank, is_living, living_tokens, merged, num_docs_of, tokens_from}

-- whether the document of a token is alive
abbrev pub of_living : List Bool → IndexToken → Bool
of_living alive t = is_living alive t.doc

-- a token whose document's number is greater by so many
abbrev pub shift : ℕ → IndexToken → IndexToken
shift a t = record t { doc = a + t.doc }

ranks_shift : (a b : ℕ) (alive : List Bool) (us : List IndexToken) → map (at_rank (a + b) alive) us ≡ map (shift a) (map (at_rank b alive) us)
ranks_shift a b alive [] = refl
ranks_shift a b alive (u ∷ us) =
    let same : (a + b) + rank alive u.doc ≡ a + (b + rank alive u.doc) = omega arith in
    ap (λ (n : ℕ). (record u { doc = n }) ∷ map (at_rank (a + b) alive) us) same
    ∙ ap (λ (vs : List IndexToken). (record u { doc = a + (b + rank alive u.doc) }) ∷ vs) (ranks_shift a b alive us)

-- the tokens of segments after so many documents more
pub from_shift : (a b : ℕ) (ss : List Segment) → tokens_from (a + b) ss ≡ map (shift a) (tokens_from b ss)
from_shift a b [] = refl
from_shift a b (s ∷ ss) =
    let n = num_living s.alive in
    let own = living_tokens b s in
    let step : (a + b) + n ≡ a + (b + n) = omega arith in
    ap (λ (us : List IndexToken). us ++ tokens_from ((a + b) + n) ss) (ranks_shift a b s.alive (filter (of_living s.alive) s.tokens))
    ∙ ap (λ (m : ℕ). map (shift a) own ++ tokens_from m ss) step
    ∙ ap (λ (us : List IndexToken). map (shift a) own ++ us) (from_shift a (b + n) ss)
    ∙ sym (map-append (shift a) own (tokens_from (b + n) ss))

-- the documents of segments one after the other
pub docs_of_both : (xs ys : List Segment) → num_docs_of (xs ++ ys) ≡ num_docs_of xs + num_docs_of ys
docs_of_both [] ys = omega arith
docs_of_both (x ∷ xs) ys = omega (arith, docs_of_both xs ys)

-- and their tokens
pub from_append : (base : ℕ) (ss us : List Segment) → tokens_from base (ss ++ us) ≡ tokens_from base ss ++ tokens_from (base + num_docs_of ss) us
from_append base [] us = ap (λ (m : ℕ). tokens_from m us) (omega arith)
from_append base (s ∷ ss) us =
    let n = num_living s.alive in
    let step : (base + n) + num_docs_of ss ≡ base + (n + num_docs_of ss) = omega arith in
    ap (λ (vs : List IndexToken). living_tokens base s ++ vs) (from_append (base + n) ss us)
    ∙ ap (λ (m : ℕ). living_tokens base s ++ (tokens_from (base + n) ss ++ tokens_from m us)) step
    ∙ sym (append_assoc (living_tokens base s) (tokens_from (base + n) ss) (tokens_from (base + (n + num_docs_of ss)) us))

pub living_below : (base limit : ℕ) (alive : List Bool) (us : List IndexToken) → base + num_living alive ≤ limit
    → AllByRecursion (λ (t : IndexToken). t.doc < limit) (map (at_rank base alive) (filter (of_living alive) us))
living_below base limit alive [] within = tt
living_below base limit alive (u ∷ us) within = by_case (of_living alive u) refl (living_below base limit alive us within)
  where
    by_case : (b : Bool) → of_living alive u ≡ b → AllByRecursion (λ (t : IndexToken). t.doc < limit) (map (at_rank base alive) (filter (of_living alive) us))
        → AllByRecursion (λ (t : IndexToken). t.doc < limit) (map (at_rank base alive) (filter (of_living alive) (u ∷ us)))
    by_case true living rest = rw living (omega (arith, within, rank_below alive u.doc living), rest)
    by_case false dead rest = rw dead rest

pub all_append : (P : IndexToken → Type 0) (xs ys : List IndexToken) → AllByRecursion P xs → AllByRecursion P ys → AllByRecursion P (xs ++ ys)
all_append P [] ys all more = more
all_append P (x ∷ xs) ys all more = (all.0, all_append P xs ys all.1 more)

-- the documents of an index lie below their number
pub below : (base limit : ℕ) (ss : List Segment) → base + num_docs_of ss ≤ limit → AllByRecursion (λ (t : IndexToken). t.doc < limit) (tokens_from base ss)
below base limit [] within = tt
below base limit (s ∷ ss) within =
    let n = num_living s.alive in
    all_append (λ (t : IndexToken). t.doc < limit) (living_tokens base s) (tokens_from (base + n) ss)
    (living_below base limit s.alive s.tokens (omega (arith, within))) (below (base + n) limit ss (omega (arith, within)))

-- where all documents are alive, ranks are the documents
pub all_alive : (base n : ℕ) (ts : List IndexToken) → AllByRecursion (λ (t : IndexToken). t.doc < n) ts
    → map (at_rank base (replicate n true)) (filter (of_living (replicate n true)) ts) ≡ map (shift base) ts
all_alive base n [] within = refl
all_alive base n (t ∷ ts) within =
    let living : of_living (replicate n true) t ≡ true = get_or-replicate n t.doc true false within.0 in
    let rank_is : rank (replicate n true) t.doc ≡ t.doc = ap num_living (take-replicate t.doc n true (omega (arith, within.0))) ∙ all_living t.doc in
    rw living
    (ap (λ (m : ℕ). (record t { doc = base + m }) ∷ map (at_rank base (replicate n true)) (filter (of_living (replicate n true)) ts)) rank_is
    ∙ ap (λ (us : List IndexToken). (record t { doc = base + t.doc }) ∷ us) (all_alive base n ts within.1))

-- the merged segment stands for those that it was made of
merged_from : (base : ℕ) (chosen after : List Segment) → tokens_from base (merged chosen ∷ after) ≡ tokens_from base (chosen ++ after)
merged_from base chosen after =
    let n = num_docs_of chosen in
    let zero : base + 0 ≡ base = omega arith in
    let own : map (at_rank base (replicate n true)) (filter (of_living (replicate n true)) (tokens_from 0 chosen)) ≡ tokens_from base chosen =
    all_alive base n (tokens_from 0 chosen) (below 0 n chosen (omega arith)) ∙ sym (from_shift base 0 chosen) ∙ ap (λ (m : ℕ). tokens_from m chosen) zero in
    ap (λ (us : List IndexToken). us ++ tokens_from (base + num_living (replicate n true)) after) own
    ∙ ap (λ (m : ℕ). tokens_from base chosen ++ tokens_from (base + m) after) (all_living n)
    ∙ sym (from_append base chosen after)

pub merge_keeps : MergeKeeps
merge_keeps before chosen after =
    from_append 0 before (merged chosen ∷ after)
    ∙ ap (λ (us : List IndexToken). tokens_from 0 before ++ us) (merged_from (0 + num_docs_of before) chosen after)
    ∙ sym (from_append 0 before (chosen ++ after))
