-- How the text of some fields of a line grows, name by name.
use Rattle.std.proofs.Common.{◌≡◌, ℕ, suc, ◌+◌, ◌<◌, ◌≤◌, Bool, List, [], ◌∷◌, ◌++◌, length, get_or, drop, refl, sym, ap, subst, ◌∙◌, append_assoc, arith}
use Rattle.std.specs.Borrow.{Bor}
use Rattle.std.proofs.Math.Seq.{drop-cons}
use Rattle.std.proofs.lemmas.List.{drop_all}
use Rattle.serde_json.specs.Data.{Data, Members, no_members}
use Rattle.serde_json.specs.Find.{get}
use Rattle.ii_documents.specs.declared.line_fields.NullMembers.{NullMembers}
use Rattle.ii_documents.specs.LineFields.{AddsMember, IsMembersText, IsObjectText, chosen, names_of, unless_null, with_member}

-- the members of the names from an index on

next_chosen : (nulls : NullMembers) (names : List (Bor (List ℕ))) (i : ℕ) (b : Bor (List ℕ)) (d : Data) → i < length names
    → chosen nulls (names_of (drop i names)) d ≡ with_member (get_or names i b).now (unless_null nulls (get (get_or names i b).now d)) (chosen nulls (names_of (drop (i + 1) names)) d)
next_chosen nulls names i b d lt =
    let next : suc i ≡ i + 1 = omega arith in
    ap (λ (bs : List (Bor (List ℕ))). chosen nulls (names_of bs) d) (drop-cons names i b lt)
    ∙ ap (λ (n : ℕ). with_member (get_or names i b).now (unless_null nulls (get (get_or names i b).now d)) (chosen nulls (names_of (drop n names)) d)) next

none_chosen : (nulls : NullMembers) (names : List (Bor (List ℕ))) (i : ℕ) (d : Data) → length names ≤ i → chosen nulls (names_of (drop i names)) d ≡ no_members
none_chosen nulls names i d le = ap (λ (bs : List (Bor (List ℕ))). chosen nulls (names_of bs) d) (drop_all i names le)

pub goes_on : (nulls : NullMembers) (d : Data) (names : List (Bor (List ℕ))) (i : ℕ) (b : Bor (List ℕ)) (later now : Bool) (old new : List ℕ) (wanted : Members) → i < length names
    → AddsMember later (get_or names i b).now (unless_null nulls (get (get_or names i b).now d)) old now new
    → ((others : List ℕ) → IsMembersText later (chosen nulls (names_of (drop i names)) d) others → IsObjectText wanted (old ++ others))
    → (others : List ℕ) → IsMembersText now (chosen nulls (names_of (drop (i + 1) names)) d) others → IsObjectText wanted (new ++ others)
goes_on nulls d names i b later now old new wanted lt added so_far others rest =
    let piece = added.0 in
    let here : IsMembersText later (chosen nulls (names_of (drop i names)) d) (piece ++ others) =
    subst (λ (ms : Members). IsMembersText later ms (piece ++ others)) (sym (next_chosen nulls names i b d lt)) (added.2 (chosen nulls (names_of (drop (i + 1) names)) d) others rest) in
    subst (λ (t : List ℕ). IsObjectText wanted t) (sym (ap (λ (t : List ℕ). t ++ others) added.1 ∙ append_assoc old piece others)) (so_far (piece ++ others) here)

pub is_done : (nulls : NullMembers) (d : Data) (names : List (Bor (List ℕ))) (i : ℕ) (later : Bool) (text : List ℕ) (wanted : Members) → length names ≤ i
    → ((others : List ℕ) → IsMembersText later (chosen nulls (names_of (drop i names)) d) others → IsObjectText wanted (text ++ others))
    → IsObjectText wanted (text ++ 125 ∷ [])
is_done nulls d names i later text wanted le so_far =
    so_far (125 ∷ []) (subst (λ (ms : Members). IsMembersText later ms (125 ∷ [])) (sym (none_chosen nulls names i d le)) refl)
