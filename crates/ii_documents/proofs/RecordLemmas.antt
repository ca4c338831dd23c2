-- The names of stored fields, field by field.
use Rattle.std.proofs.Common.{◌≡◌, ℕ, zero, suc, ◌+◌, ◌≤◌, Bool, true, false, List, [], ◌∷◌, ◌++◌, length, map, drop, slice_get, Some, refl, sym, ap, subst, ◌∙◌, append_assoc, append-nil, arith, true≢false}
use Rattle.std.specs.Borrow.{Bor}
use Rattle.std.proofs.lemmas.List.{drop_all, map-append}
use Rattle.ii_base.specs.Schema.{SchemaEntry}
use Rattle.ii_documents.specs.LineFields.{names_of}
use Rattle.ii_schema_text.specs.Stored.{is_set, stored_names}

-- the names from an index on
abbrev names_from : List Bool → List SchemaEntry → ℕ → List (List ℕ)
names_from flags es i = stored_names (drop i flags) (drop i es)

no_names : (flags : List Bool) → stored_names flags [] ≡ []
no_names [] = refl
no_names (flag ∷ flags) = refl

same_name : (x e : SchemaEntry) (rest : List (List ℕ)) → Some x ≡ Some e → x.name ∷ rest ≡ e.name ∷ rest
same_name x e rest is =
    let same : x ≡ e = cc in
    ap (λ (y : SchemaEntry). y.name ∷ rest) same

-- a field that is stored, and one that isn't
with_name : (flags : List Bool) (es : List SchemaEntry) (i : ℕ) (e : SchemaEntry) → slice_get es i ≡ Some e → is_set (slice_get flags i) ≡ true → names_from flags es i ≡ e.name ∷ names_from flags es (suc i)
with_name [] es i e is set = absurd (true≢false (sym set))
with_name (flag ∷ flags) [] i e is set = absurd (cc)
with_name (true ∷ flags) (x ∷ es) zero e is set = same_name x e (stored_names flags es) is
with_name (false ∷ flags) (x ∷ es) zero e is set = absurd (true≢false (sym set))
with_name (flag ∷ flags) (x ∷ es) (suc i) e is set = with_name flags es i e is set

without_name : (flags : List Bool) (es : List SchemaEntry) (i : ℕ) → is_set (slice_get flags i) ≡ false → names_from flags es i ≡ names_from flags es (suc i)
without_name [] es zero unset = refl
without_name [] es (suc i) unset = refl
without_name (flag ∷ flags) [] zero unset = sym (no_names flags)
without_name (flag ∷ flags) [] (suc i) unset = no_names (drop i flags) ∙ sym (no_names (drop (suc i) flags))
without_name (true ∷ flags) (x ∷ es) zero unset = absurd (true≢false unset)
without_name (false ∷ flags) (x ∷ es) zero unset = refl
without_name (flag ∷ flags) (x ∷ es) (suc i) unset = without_name flags es i unset

next_index : (flags : List Bool) (es : List SchemaEntry) (i : ℕ) → names_from flags es (suc i) ≡ names_from flags es (i + 1)
next_index flags es i =
    let same : suc i ≡ i + 1 = omega arith in
    ap (names_from flags es) same

pub name_taken : (flags : List Bool) (es : List SchemaEntry) (i : ℕ) (e : SchemaEntry) (old new : List (Bor (List ℕ))) (b : Bor (List ℕ)) (wanted : List (List ℕ)) → slice_get es i ≡ Some e → is_set (slice_get flags i) ≡ true → b.now ≡ e.name → new ≡ old ++ b ∷ []
    → names_of old ++ names_from flags es i ≡ wanted → names_of new ++ names_from flags es (i + 1) ≡ wanted
name_taken flags es i e old new b wanted is set name more so_far =
    ap (λ (bs : List (Bor (List ℕ))). names_of bs ++ names_from flags es (i + 1)) more
    ∙ ap (λ (ns : List (List ℕ)). ns ++ names_from flags es (i + 1)) (map-append (λ (x : Bor (List ℕ)). x.now) old (b ∷ []))
    ∙ append_assoc (names_of old) (b.now ∷ []) (names_from flags es (i + 1))
    ∙ ap (λ (n : List ℕ). names_of old ++ n ∷ names_from flags es (i + 1)) name
    ∙ ap (λ (rest : List (List ℕ)). names_of old ++ e.name ∷ rest) (sym (next_index flags es i))
    ∙ ap (λ (rest : List (List ℕ)). names_of old ++ rest) (sym (with_name flags es i e is set))
    ∙ so_far

pub name_passed : (flags : List Bool) (es : List SchemaEntry) (i : ℕ) (old new : List (Bor (List ℕ))) (wanted : List (List ℕ)) → is_set (slice_get flags i) ≡ false → new ≡ old
    → names_of old ++ names_from flags es i ≡ wanted → names_of new ++ names_from flags es (i + 1) ≡ wanted
name_passed flags es i old new wanted unset same so_far =
    ap (λ (bs : List (Bor (List ℕ))). names_of bs ++ names_from flags es (i + 1)) same
    ∙ ap (λ (rest : List (List ℕ)). names_of old ++ rest) (sym (next_index flags es i))
    ∙ ap (λ (rest : List (List ℕ)). names_of old ++ rest) (sym (without_name flags es i unset))
    ∙ so_far

pub all_taken : (flags : List Bool) (es : List SchemaEntry) (i : ℕ) (done wanted : List (List ℕ)) → length es ≤ i → done ++ names_from flags es i ≡ wanted → done ≡ wanted
all_taken flags es i done wanted le so_far =
    sym (append-nil done)
    ∙ ap (λ (rest : List (List ℕ)). done ++ rest) (sym (ap (stored_names (drop i flags)) (drop_all i es le) ∙ no_names (drop i flags)))
    ∙ so_far
