-- Sources one after the other.
use Rattle.std.proofs.Common.{◌≡◌, ℕ, zero, suc, ◌+◌, ◌<◌, ◌≤◌, Option, None, List, [], ◌∷◌, drop, get_or, length, map, refl, sym, ap, ◌∙◌, arith}
use Rattle.std.proofs.lemmas.List.{get_or-map, length-map}
use Rattle.ii_alive.specs.Alive.{num_living}
use Rattle.ii_termstore.specs.declared.term_info.TermInfo.{TermInfo}
use Rattle.ii_merger.specs.MergeSources.{FieldSourceState, source_info, source_of, living_in_sources}
use Rattle.ii_merger.specs.declared.field_source.FieldSource.{FieldSource}

-- the info of a key in the next source
pub info_at : (key : List ℕ) (xs : List FieldSource) (infos : List (Option TermInfo)) (i : ℕ) (x : FieldSource) → i < length xs → x ≡ get_or xs i x → infos ≡ map (source_info key) (map source_of xs) → get_or infos i None ≡ source_info key (source_of x)
info_at key xs infos i x inside is all =
    ap (λ (os : List (Option TermInfo)). get_or os i None) all
    ∙ get_or-map (source_info key) (map source_of xs) i (source_of x) None (omega (arith, inside, length-map xs source_of))
    ∙ ap (source_info key) (get_or-map source_of xs i x (source_of x) inside ∙ ap source_of (sym is))

pub none_after : (xs : List FieldSource) (i : ℕ) → length xs ≤ i → drop i (map source_of xs) ≡ []
none_after [] zero beyond = refl
none_after [] (suc i) beyond = refl
none_after (x ∷ xs) zero beyond = absurd (omega (arith, beyond))
none_after (x ∷ xs) (suc i) beyond = none_after xs i (omega (arith, beyond))

-- the numbers of the next source
pub numbers_fit : (ss rest more : List FieldSourceState) (s : FieldSourceState) (base limit : ℕ) → base + living_in_sources rest ≡ living_in_sources ss → rest ≡ s ∷ more → living_in_sources ss ≤ limit → base + num_living s.alive ≤ limit
numbers_fit ss rest more s base limit all is few = omega (arith, all, few, ap living_in_sources is)
