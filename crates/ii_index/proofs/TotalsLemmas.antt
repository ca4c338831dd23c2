-- Numbers of tokens that are added up, and the first damage of counts.
use Rattle.std.proofs.Common.{◌≡◌, ◌∙◌, ℕ, ◌+◌, ◌-◌, ◌^◌, ◌<◌, ◌≤◌, List, [], ◌∷◌, Option, None, Some, Result, ap, arith, drop, get_or, length, map, min, sym}
use Rattle.std.proofs.lemmas.List.{drop_all, length-map}
use Rattle.ii_io.specs.declared.faults.Part.{Part}
use Rattle.ii_ranking.specs.Scores.{first_of}
use Rattle.ii_index.specs.Searching.{totals_view}
use Rattle.ii_index.specs.Statistics.{counts_damage, damage_in, num_tokens_of, tokens_in}
use Rattle.ii_definitions.proofs.ListLaws.{mapped_at}
use Rattle.ii_index.proofs.OpenLemmas.{SegmentTotals}

module _ (all : List SegmentTotals) where
  -- the numbers of the segments from a place on
  abbrev pub totals_from : ℕ → List (Result (List ℕ) Part)
  totals_from place = drop place (map totals_view all)

  -- A sum, in front of what is added of the segments from a place on, is that of all, but at most 2^64 - 1.
  pub record IsSumming (field place sum : ℕ) : Type 0 where
    pub few : sum ≤ 2 ^ 64 - 1
    pub whole : min (2 ^ 64 - 1) (sum + num_tokens_of (totals_from place) field) ≡ min (2 ^ 64 - 1) (num_tokens_of (map totals_view all) field)

  pub summing_first : (field : ℕ) → IsSumming field 0 0
  summing_first field = record { few = omega arith; whole = let none : 0 + num_tokens_of (map totals_view all) field ≡ num_tokens_of (map totals_view all) field = omega arith in ap (min (2 ^ 64 - 1)) none }

  module _ (place : ℕ) (t : SegmentTotals) (inside : place < length all) (is : t ≡ get_or all place t) where
    here : totals_from place ≡ totals_view t ∷ totals_from (place + 1)
    here = mapped_at totals_view all place t inside is

    pub summing_next : (field sum count new : ℕ) → count ≡ tokens_in field (totals_view t) → new ≡ min (sum + count) (2 ^ 64 - 1) → IsSumming field place sum → IsSumming field (place + 1) new
    summing_next field sum count new counted added h =
        let step = ap (λ (ts : List (Result (List ℕ) Part)). num_tokens_of ts field) here in
        record { few = omega (arith, added); whole = capped sum count new (num_tokens_of (totals_from (place + 1)) field) (num_tokens_of (totals_from place) field) added (omega (arith, step, counted)) ∙ h.whole }
      where
        capped : (sum count new later both : ℕ) → new ≡ min (sum + count) (2 ^ 64 - 1) → both ≡ count + later → min (2 ^ 64 - 1) (new + later) ≡ min (2 ^ 64 - 1) (sum + both)
        capped sum count new later both added parted = omega (arith, added, parted)

    -- the damage of the segment at a place is that of those from there on
    pub damage_here : (part : Part) (d : Option Part) → d ≡ damage_in (totals_view t) → d ≡ Some part → counts_damage (totals_from place) ≡ Some part
    damage_here part d of_it is = ap counts_damage here ∙ ap (λ (e : Option Part). first_of e (counts_damage (totals_from (place + 1)))) (sym of_it ∙ is)

    pub damage_later : (d : Option Part) → d ≡ damage_in (totals_view t) → d ≡ None → counts_damage (totals_from (place + 1)) ≡ counts_damage (totals_from place)
    damage_later d of_it none = sym (ap counts_damage here ∙ ap (λ (e : Option Part). first_of e (counts_damage (totals_from (place + 1)))) (sym of_it ∙ none))

  module _ (place : ℕ) (end : length all ≤ place) where
    none_left : totals_from place ≡ []
    none_left = let many = length-map all totals_view in drop_all place (map totals_view all) (omega (arith, many, end))

    pub summing_ended : (field sum : ℕ) → IsSumming field place sum → sum ≡ min (2 ^ 64 - 1) (num_tokens_of (map totals_view all) field)
    summing_ended field sum h =
        let none = ap (λ (ts : List (Result (List ℕ) Part)). num_tokens_of ts field) none_left in
        let few = h.few in
        let same : sum ≡ min (2 ^ 64 - 1) (sum + num_tokens_of (totals_from place) field) = omega (arith, none, few) in
        same ∙ h.whole

    pub no_damage : counts_damage (totals_from place) ≡ None
    no_damage = ap counts_damage none_left
