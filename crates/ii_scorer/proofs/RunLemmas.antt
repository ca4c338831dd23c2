-- Runs of documents that are passed by their bounds.
use Rattle.std.proofs.Common.{◌≡◌, ◌∙◌, ℕ, zero, suc, ◌+◌, ◌<◌, ◌≤◌, ◌^◌, inl, Bool, true, false, List, [], ◌∷◌, ◌++◌, Option, None, Some, arith, get_or, length, min, nat_lt, refl, slice_get, subst, sym, take, ap}
use Rattle.std.specs.List.{AllZip, fold}
use Rattle.std.proofs.lemmas.Bool.{ltb-false, ltb-true}
use Rattle.std.proofs.lemmas.List.{take_all}
use Rattle.ii_base.specs.declared.doc_id.TheConstants.{TERMINATED}
use Rattle.ii_scorer.specs.BlockLists.{BlockList, ReadsOnly}
use Rattle.ii_scorer.specs.Combinations.{add, any_of, both, each_of, either}
use Rattle.ii_scorer.specs.QueryScorers.{PartsAreBounded, score_by_parts}
use Rattle.ii_scorer.specs.Scorers.{IsBelow, IsBoundUntil, IsNext, IsPassed, IsUpTo, KeepsFrom, MayScore, ScorerState, bound_over, doc_bound, score_of, scores_at, scores_below}
use Rattle.ii_scorer.specs.declared.query_scorer.ScorerParts.{ScorerParts}
use Rattle.ii_scorer.specs.declared.query_scorer.ScorerParts.TheVariants.{Nothing, One, All, Each, Any, Without}
use Rattle.ii_scorer.specs.declared.scorer.ScoreBound.{ScoreBound}
use Rattle.ii_scorer.proofs.BlockListLaws.{all_on, all_weaker}
use Rattle.ii_scorer.proofs.BoundLemmas.{bound_more}
use Rattle.ii_scorer.proofs.PartsLemmas.{all_ends, any_ends, each_ends, row_holds, unless_ends}
use Rattle.ii_scorer.proofs.ScorerLemmas.{below_if_up_to, up_to_either, zip_at}
use Rattle.ii_scorer.proofs.SumLemmas.{any_append, both_never}

-- ---- bounds of one scorer
-- a bound of scores bounds those below `TERMINATED`
pub row_bound : (target : ℕ) (f : ℕ → Option ℕ) (b : ScoreBound) → IsBoundUntil target f b → IsBoundUntil target (λ (doc : ℕ). get_or (scores_below TERMINATED f) doc None) b
row_bound target f b is = record { ahead = is.ahead; up_to = is.up_to; fits = is.fits; each = λ doc from below. row_holds (IsUpTo b.most) f doc tt (is.each doc from below) }

-- no document from `TERMINATED` on has a score
pub parts_end : {T : Type 0} (state : T → ScorerState) (most : ℕ) (parts : ScorerParts T) (doc : ℕ) → TERMINATED ≤ doc → PartsAreBounded state most parts → score_by_parts state parts doc ≡ None
parts_end state most Nothing doc end b = refl
parts_end state most (One scorer) doc end b = b.0.ends doc end
parts_end state most (All limit) doc end b = all_ends limit doc end
parts_end state most (Each parts) doc end b = each_ends parts.items doc end b.0
parts_end state most (Any parts sums) doc end b = any_ends parts.items doc end b.0.0
parts_end state most (Without first other) doc end b = unless_ends (score_of first.value doc) (score_of other.value doc) (b.0.ends doc end)

-- ---- bounds of some scorers
-- This is a bound of what documents score by the first of some scorers together.
pub record BoundsFirst (place target most end : ℕ) (ss : List ScorerState) : Type 0 where
  pub ahead : target < end
  pub up_to : end ≤ TERMINATED
  pub fits : most < 2 ^ 64
  pub each : (doc : ℕ) → target ≤ doc → doc < end → IsUpTo most (any_of (scores_at (take place ss) doc))
  pub within : (doc : ℕ) → target ≤ doc → doc < end → most ≤ bound_over (take place ss) doc

pub bounds_none : (target : ℕ) (ss : List ScorerState) → target < TERMINATED → BoundsFirst 0 target 0 TERMINATED ss
bounds_none target ss low = record { ahead = low; up_to = omega arith; fits = omega arith; each = λ doc from below. tt; within = λ doc from below. omega arith }

any_more : (ss : List ScorerState) (place doc : ℕ) (s : ScorerState) → slice_get ss place ≡ Some s → any_of (scores_at (take (place + 1) ss) doc) ≡ either (any_of (scores_at (take place ss) doc)) (score_of s doc)
any_more ss place doc s at =
    let more : place + 1 ≡ suc place = omega arith in
    ap (λ (n : ℕ). any_of (scores_at (take n ss) doc)) more ∙ ap any_of (rows ss place s at) ∙ any_append (scores_at (take place ss) doc) (score_of s doc ∷ [])
  where
    some_injective : (a b : ScorerState) → Some a ≡ Some b → a ≡ b
    some_injective a b is = cc

    rows : (ts : List ScorerState) (i : ℕ) (t : ScorerState) → slice_get ts i ≡ Some t → scores_at (take (suc i) ts) doc ≡ scores_at (take i ts) doc ++ score_of t doc ∷ []
    rows [] i t at = absurd (cc)
    rows (y ∷ ts) zero t at = ap (λ (z : ScorerState). score_of z doc ∷ []) (some_injective y t at)
    rows (y ∷ ts) (suc i) t at = ap (λ (row : List (Option ℕ)). score_of y doc ∷ row) (rows ts i t at)

-- one scorer more
pub bounds_next : (place target most end : ℕ) (olds news : List ScorerState) (x : ScorerState) (b : ScoreBound) (sum last : ℕ) → place < length news → x ≡ get_or news place x → AllZip (KeepsFrom target) olds news
    → BoundsFirst place target most end olds → IsBoundUntil target (score_of x) b → ((doc : ℕ) → target ≤ doc → doc < b.end → b.most ≤ doc_bound x doc) → sum ≡ add most b.most → last ≡ min end b.end → BoundsFirst (place + 1) target sum last olds
bounds_next place target most end olds news x b sum last inside is kept so_far bound within sum_is last_is = by (zip_at target olds news place x inside is kept)
  where
    by : (o : ScorerState) × (slice_get olds place ≡ Some o) × KeepsFrom target o x → BoundsFirst (place + 1) target sum last olds
    by (o, at, went) = record {
      ahead = let one = so_far.ahead in let other = bound.ahead in omega (arith, one, other, last_is);
      up_to = let one = so_far.up_to in omega (arith, one, last_is);
      fits = omega (arith, sum_is);
      each = λ doc from below.
          let before = so_far.each doc from (omega (arith, below, last_is)) in
          let part : IsUpTo b.most (score_of o doc) = subst (IsUpTo b.most) (went.alike doc from) (bound.each doc from (omega (arith, below, last_is))) in
          let both : IsUpTo (add most b.most) (either (any_of (scores_at (take place olds) doc)) (score_of o doc)) = up_to_either most b.most (any_of (scores_at (take place olds) doc)) (score_of o doc) so_far.fits bound.fits before part in
          subst (λ (n : ℕ). IsUpTo n (any_of (scores_at (take (place + 1) olds) doc))) (sym sum_is) (subst (IsUpTo (add most b.most)) (sym (any_more olds place doc o at)) both);
      within = λ doc from below.
          let before = so_far.within doc from (omega (arith, below, last_is)) in
          let part : b.most ≤ doc_bound o doc = subst (λ (bounds : List ℕ). b.most ≤ get_or bounds doc 0) went.bounds (within doc from (omega (arith, below, last_is))) in
          let more = bound_more olds place doc o at in
          omega (arith, before, part, more, sum_is);
    }

-- all of them
pub bounds_any : (place target : ℕ) (b : ScoreBound) (ss : List ScorerState) → length ss ≤ place → BoundsFirst place target b.most b.end ss → IsBoundUntil target (λ (doc : ℕ). any_of (scores_at ss doc)) b
bounds_any place target b ss all is = record {
  ahead = is.ahead;
  up_to = is.up_to;
  fits = is.fits;
  each = λ doc from below. subst (λ (ts : List ScorerState). IsUpTo b.most (any_of (scores_at ts doc))) (take_all place ss all) (is.each doc from below);
}

-- The bound of some documents is within the bounds of these by all of them.
pub bounds_within : (place target most end : ℕ) (ss : List ScorerState) → length ss ≤ place → BoundsFirst place target most end ss → (doc : ℕ) → target ≤ doc → doc < end → most ≤ bound_over ss doc
bounds_within place target most end ss all is doc from below = subst (λ (ts : List ScorerState). most ≤ bound_over ts doc) (take_all place ss all) (is.within doc from below)

-- what each has to match scores no more than what one has to match
each_below_any : (most : ℕ) (scores : List (Option ℕ)) → IsUpTo most (any_of scores) → IsUpTo most (each_of scores)
each_below_any most [] up = tt
each_below_any most (None ∷ scores) up = subst (IsUpTo most) (sym (both_never scores)) tt
each_below_any most (Some s ∷ scores) up = go s scores up
  where
    go : (sum : ℕ) (row : List (Option ℕ)) → IsUpTo most (fold either (Some sum) row) → IsUpTo most (fold both (Some sum) row)
    go sum [] up = up
    go sum (None ∷ row) up = subst (IsUpTo most) (sym (both_never row)) tt
    go sum (Some t ∷ row) up = go (add sum t) row up

pub bounds_each : (target : ℕ) (b : ScoreBound) (ss : List ScorerState) → IsBoundUntil target (λ (doc : ℕ). any_of (scores_at ss doc)) b → IsBoundUntil target (λ (doc : ℕ). each_of (scores_at ss doc)) b
bounds_each target b ss is = record { ahead = is.ahead; up_to = is.up_to; fits = is.fits; each = λ doc from below. each_below_any b.most (scores_at ss doc) (is.each doc from below) }

-- ---- runs that are passed
-- Documents from a target on were passed up to another one, since they score less; from there on scores are what they were.
pub record SkipsTo (target least : ℕ) (old new : ℕ → Option ℕ) (doc : ℕ) : Type 0 where
  pub low : target ≤ doc
  pub up_to : doc ≤ TERMINATED
  pub passed : (d : ℕ) → target ≤ d → d < doc → IsBelow least (old d)
  pub alike : (d : ℕ) → doc ≤ d → new d ≡ old d

pub skips_none : (target least : ℕ) (f : ℕ → Option ℕ) → target ≤ TERMINATED → SkipsTo target least f f target
skips_none target least f up = record { low = omega arith; up_to = up; passed = λ d from below. absurd (omega (arith, from, below)); alike = λ d from. refl }

module _ (target least doc : ℕ) (f g h : ℕ → Option ℕ) (so_far : SkipsTo target least f g doc) (same : (d : ℕ) → doc ≤ d → h d ≡ g d) where
  -- a document that isn't passed yet, by what documents score now
  below_now : (d : ℕ) → doc ≤ d → IsBelow least (h d) → IsBelow least (f d)
  below_now d from below = subst (IsBelow least) (same d from ∙ so_far.alike d from) below

  -- a run whose bound is too low
  pub skips_run : (b : ScoreBound) → IsBoundUntil doc g b → b.most < least → SkipsTo target least f h b.end
  skips_run b bound low = record {
    low = let one = so_far.low in let other = bound.ahead in omega (arith, one, other);
    up_to = bound.up_to;
    passed = λ d from below. by d from below (nat_lt d doc) refl;
    alike = λ d from. let ahead = bound.ahead in let up : doc ≤ d = omega (arith, ahead, from) in same d up ∙ so_far.alike d up;
  }
    where
      by : (d : ℕ) → target ≤ d → d < b.end → (t : Bool) → nat_lt d doc ≡ t → IsBelow least (f d)
      by d from below true is = so_far.passed d from (ltb-true d doc is)
      by d from below false is =
          let up = ltb-false d doc is in
          subst (IsBelow least) (so_far.alike d up) (below_if_up_to b.most least (g d) low (bound.each d up below))

  -- documents before the next one
  pub skips_next : (next : ℕ) → IsNext doc least h next → IsNext target least f next
  skips_next next is = record {
    low = let one = so_far.low in let other = is.low in omega (arith, one, other);
    up_to = is.up_to;
    passed = λ d from passed. by d from passed (nat_lt d doc) refl;
  }
    where
      by : (d : ℕ) → target ≤ d → IsPassed next d → (t : Bool) → nat_lt d doc ≡ t → IsBelow least (f d)
      by d from passed true at = so_far.passed d from (ltb-true d doc at)
      by d from passed false at = let up = ltb-false d doc at in below_now d up (is.passed d up passed)

  pub skips_more : (next : ℕ) (k : ℕ → Option ℕ) → IsNext doc least h next → ((d : ℕ) → doc ≤ d → k d ≡ h d) → SkipsTo target least f k next
  skips_more next k is kept = record {
    low = let one = so_far.low in let other = is.low in omega (arith, one, other);
    up_to = is.up_to;
    passed = λ d from below. (skips_next next is).passed d from (inl below);
    alike = λ d from. let low = is.low in let up : doc ≤ d = omega (arith, low, from) in kept d up ∙ same d up ∙ so_far.alike d up;
  }

-- nothing is left
pub skips_end : (target least doc : ℕ) (f g : ℕ → Option ℕ) → SkipsTo target least f g doc → TERMINATED ≤ doc → ((d : ℕ) → TERMINATED ≤ d → f d ≡ None) → IsNext target least f doc
skips_end target least doc f g so_far end none = record {
  low = so_far.low;
  up_to = so_far.up_to;
  passed = λ d from passed. by d from (nat_lt d doc) refl;
}
  where
    by : (d : ℕ) → target ≤ d → (t : Bool) → nat_lt d doc ≡ t → IsBelow least (f d)
    by d from true at = so_far.passed d from (ltb-true d doc at)
    by d from false at = let up = ltb-false d doc at in rw (none d (omega (arith, up, end))) tt

-- ---- what is read meanwhile
-- Lists were read only at documents from a target on, up to another one, whose bound reaches a score.
abbrev pub ReadsUpTo : ℕ → ℕ → ℕ → (ℕ → ℕ) → List BlockList → List BlockList → Type 0
ReadsUpTo target least doc bound = ReadsOnly (MayScore target least doc bound)

-- what is at most a bound is at most the same bound later
pub reaches_then : (f g : ℕ → ℕ) (least most doc : ℕ) → f ≡ g → least ≤ most → most ≤ f doc → least ≤ g doc
reaches_then f g least most doc same low up = let here = ap (λ (h : ℕ → ℕ). h doc) same in omega (arith, low, up, here)

-- nothing more was read
pub reads_still : (target least doc next : ℕ) (bound : ℕ → ℕ) (xs ys zs : List BlockList) → doc ≤ next → ReadsUpTo target least doc bound xs ys → ReadsOnly (λ (from : ℕ). ⊥) ys zs → ReadsUpTo target least next bound xs zs
reads_still target least doc next bound xs ys zs up so_far none =
    all_on (MayScore target least next bound) xs ys zs
    (all_weaker (MayScore target least doc bound) (MayScore target least next bound) (λ d may. record { low = may.low; up_to = let high = may.up_to in omega (arith, high, up); inside = may.inside; reaches = may.reaches }) xs ys so_far)
    (all_weaker (λ (from : ℕ). ⊥) (MayScore target least next bound) (λ d never. absurd never) ys zs none)

-- more was read at one document
pub reads_here : (target least doc next : ℕ) (bound : ℕ → ℕ) (xs ys zs ws : List BlockList) → target ≤ doc → doc ≤ next → doc < TERMINATED → least ≤ bound doc → ReadsUpTo target least doc bound xs ys → ReadsOnly (λ (from : ℕ). ⊥) ys zs → ReadsOnly (λ (from : ℕ). from ≡ doc) zs ws → ReadsUpTo target least next bound xs ws
reads_here target least doc next bound xs ys zs ws low up inside reaches so_far none here =
    all_on (MayScore target least next bound) xs zs ws (reads_still target least doc next bound xs ys zs up so_far none)
    (all_weaker (λ (from : ℕ). from ≡ doc) (MayScore target least next bound) (λ d at. subst (MayScore target least next bound) (sym at) (record { low = low; up_to = up; inside = inside; reaches = reaches })) zs ws here)
