-- Segments are merged into a segment.
use Rattle.std.proofs.Common.{◌≡◌, ℕ, ◌+◌, ◌<◌, Bool, true, false, List, [], ◌∷◌, length, map, refl, sym, subst, arith}
use Rattle.std.specs.Prelude.{filter}
use Rattle.std.specs.List.{AllByRecursion}
use Rattle.std.proofs.lemmas.List.{length-replicate}
use Rattle.ii_base.specs.Schema.{SchemaEntry}
use Rattle.ii_alive.specs.Alive.{num_living}
use Rattle.ii_definitions.specs.Tokens.{IndexToken}
use Rattle.ii_segments.specs.SegmentLaws.{MergedIsSegment}
use Rattle.ii_segments.specs.Segments.{AreSegmentTokens, Segment, at_rank, index_tokens, is_key_of_text_in, living_tokens, num_docs_of, tokens_from}
use Rattle.ii_segments.proofs.MergeLaws.{all_append, below, of_living}
use Rattle.ii_segments.proofs.OrderLemmas.{AllAscend, ascend_from_order, order_from_ascend, tokens_ascend}

pub all_ascend : (entries : List SchemaEntry) (ss : List Segment) → AllByRecursion (AreSegmentTokens entries) ss → AllAscend ss
all_ascend entries [] are = tt
all_ascend entries (s ∷ ss) are = (ascend_from_order s.tokens are.0.ordered, all_ascend entries ss are.1)

-- a fact of tokens that doesn't depend on their documents
module _ (P : IndexToken → Type 0) (stays : (t : IndexToken) (doc : ℕ) → P t → P (record t { doc = doc })) where
  all_living : (base : ℕ) (alive : List Bool) (ts : List IndexToken) → AllByRecursion P ts → AllByRecursion P (map (at_rank base alive) (filter (of_living alive) ts))
  all_living base alive [] all = tt
  all_living base alive (t ∷ ts) all = by (of_living alive t) refl (all_living base alive ts all.1)
    where
      by : (b : Bool) → of_living alive t ≡ b → AllByRecursion P (map (at_rank base alive) (filter (of_living alive) ts)) → AllByRecursion P (map (at_rank base alive) (filter (of_living alive) (t ∷ ts)))
      by true living others = rw living (stays t ((at_rank base alive t).doc) all.0, others)
      by false dead others = rw dead others

  -- The fact holds for the tokens of all segments.
  abbrev pub AllTokens : List Segment → Type 0
  AllTokens [] = Unit {0}
  AllTokens (s ∷ ss) = AllByRecursion P s.tokens × AllTokens ss

  pub all_from : (base : ℕ) (ss : List Segment) → AllTokens ss → AllByRecursion P (tokens_from base ss)
  all_from base [] all = tt
  all_from base (s ∷ ss) all =
      all_append P (living_tokens base s) (tokens_from (base + num_living s.alive) ss) (all_living base s.alive s.tokens all.0) (all_from (base + num_living s.alive) ss all.1)

abbrev IsKnown : List SchemaEntry → IndexToken → Type 0
IsKnown entries t = t.field < length entries

abbrev pub IsTyped : List SchemaEntry → IndexToken → Type 0
IsTyped entries t = t.of_text ≡ is_key_of_text_in entries t.field t.key

all_known : (entries : List SchemaEntry) (ss : List Segment) → AllByRecursion (AreSegmentTokens entries) ss → AllTokens (IsKnown entries) (λ t doc known. known) ss
all_known entries [] are = tt
all_known entries (s ∷ ss) are = (are.0.known, all_known entries ss are.1)

all_typed : (entries : List SchemaEntry) (ss : List Segment) → AllByRecursion (AreSegmentTokens entries) ss → AllTokens (IsTyped entries) (λ t doc typed. typed) ss
all_typed entries [] are = tt
all_typed entries (s ∷ ss) are = (are.0.typed, all_typed entries ss are.1)

-- the tokens of an index of segments are of texts exactly where their keys are
pub index_typed : (entries : List SchemaEntry) (ss : List Segment) → AllByRecursion (AreSegmentTokens entries) ss → AllByRecursion (IsTyped entries) (index_tokens ss)
index_typed entries ss are = all_from (IsTyped entries) (λ t doc typed. typed) 0 ss (all_typed entries ss are)

pub merged_is_segment : MergedIsSegment
merged_is_segment entries ss are =
    let n = num_docs_of ss in
    record {
      ordered = order_from_ascend 0 (index_tokens ss) (tokens_ascend 0 ss (all_ascend entries ss are));
      below = subst (λ (m : ℕ). AllByRecursion (λ (t : IndexToken). t.doc < m) (index_tokens ss)) (sym (length-replicate n true)) (below 0 n ss (omega arith));
      known = all_from (IsKnown entries) (λ t doc known. known) 0 ss (all_known entries ss are);
      typed = index_typed entries ss are;
    }
