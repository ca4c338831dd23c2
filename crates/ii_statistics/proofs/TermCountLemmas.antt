-- The terms of a query, counted one after the other.
use Rattle.std.proofs.Common.{◌≡◌, ◌∙◌, ℕ, List, [], ◌∷◌, ◌++◌, Option, None, append-nil, append_assoc, ap, map, refl, subst, sym}
use Rattle.std.specs.List.{AllByRecursion}
use Rattle.std.proofs.lemmas.List.{map-append}
use Rattle.ii_base.specs.Terms.{TermState}
use Rattle.ii_definitions.proofs.ListLaws.{all_both}
use Rattle.ii_io.specs.declared.faults.Fault.{Fault}
use Rattle.ii_io.specs.declared.faults.Part.{Part}
use Rattle.ii_query_parser.specs.declared.query.Query.TheVariants.{Term}
use Rattle.ii_ranking.specs.Scores.{IsScoreFault, damage_of, first_of}
use Rattle.ii_segment_search.specs.Searcher.{OpenSegmentState, found_from}
use Rattle.ii_statistics.specs.Listed.{IsListedInEach, HaveField}
use Rattle.ii_statistics.specs.Statistics.{CountsState, counts_of_term, terms_damage}
use Rattle.ii_statistics.proofs.DamageLemmas.{damaged_before}

module _ (by_field : ℕ → ℕ) (segments : List OpenSegmentState) where
  -- The field of a term is one of each segment.
  abbrev pub IsKnown : TermState → Type 0
  IsKnown t = HaveField segments t.field

  -- Terms were counted, in front of those that are left.
  pub record IsCounting (all left : List TermState) (counts : List CountsState) : Type 0 where
    pub taken : List TermState
    pub whole : taken ++ left ≡ all
    pub counted : counts ≡ map (counts_of_term by_field segments) taken
    pub sound : terms_damage segments left ≡ terms_damage segments all
    pub fields : AllByRecursion IsKnown left
    pub listed : AllByRecursion (IsListedInEach segments) taken

  module _ (all : List TermState) where
    pub counting_first : (counts : List CountsState) → counts ≡ [] → AllByRecursion IsKnown all → IsCounting all all counts
    counting_first counts none fields = record { taken = []; whole = refl; counted = none; sound = refl; fields = fields; listed = tt }

    module _ (left rest : List TermState) (counts : List CountsState) (t : TermState) (at : left ≡ t ∷ rest) (h : IsCounting all left counts) where
      fields_at : AllByRecursion IsKnown (t ∷ rest)
      fields_at = subst (AllByRecursion IsKnown) at h.fields

      pub field_next : HaveField segments t.field
      field_next = fields_at.0

      damage_at : first_of (damage_of (found_from (Term t) 0 segments)) (terms_damage segments rest) ≡ terms_damage segments all
      damage_at = sym (ap (terms_damage segments) at) ∙ h.sound

      pub counting_next : (new : List CountsState) (c : CountsState) → new ≡ counts ++ c ∷ [] → c ≡ counts_of_term by_field segments t → damage_of (found_from (Term t) 0 segments) ≡ None → IsListedInEach segments t → IsCounting all rest new
      counting_next new c pushed is sound listed = record {
        taken = h.taken ++ t ∷ [];
        whole = append_assoc h.taken (t ∷ []) rest ∙ ap (λ (ts : List TermState). h.taken ++ ts) (sym at) ∙ h.whole;
        counted = pushed ∙ (λ j. h.counted j ++ is j ∷ []) ∙ sym (map-append (counts_of_term by_field segments) h.taken (t ∷ []));
        sound = sym (ap (λ (d : Option Part). first_of d (terms_damage segments rest)) sound) ∙ damage_at;
        fields = fields_at.1;
        listed = all_both (IsListedInEach segments) h.taken (t ∷ []) h.listed (listed, tt);
      }

      pub counting_refused : (fault : Fault) → IsScoreFault (damage_of (found_from (Term t) 0 segments)) fault → IsScoreFault (terms_damage segments all) fault
      counting_refused fault refused = subst (λ (d : Option Part). IsScoreFault d fault) damage_at (damaged_before (damage_of (found_from (Term t) 0 segments)) (terms_damage segments rest) fault refused)

    -- all terms were counted
    module _ (left : List TermState) (counts : List CountsState) (none : left ≡ []) (h : IsCounting all left counts) where
      taken_all : h.taken ≡ all
      taken_all = sym (append-nil h.taken) ∙ ap (λ (ts : List TermState). h.taken ++ ts) (sym none) ∙ h.whole

      pub counted_all : counts ≡ map (counts_of_term by_field segments) all
      counted_all = h.counted ∙ ap (map (counts_of_term by_field segments)) taken_all

      pub sound_all : terms_damage segments all ≡ None
      sound_all = sym h.sound ∙ ap (terms_damage segments) none

      pub listed_all : AllByRecursion (IsListedInEach segments) all
      listed_all = subst (AllByRecursion (IsListedInEach segments)) taken_all h.listed
