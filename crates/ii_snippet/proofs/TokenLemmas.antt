-- Laws of the tokens that are marked one after the other.
use Rattle.std.proofs.Common.{◌≡◌, ◌∙◌, true, List, [], ◌∷◌, ◌++◌, Option, Some, ap, append_assoc, arith, drop, length, map, nat_lt, sym}
use Rattle.std.specs.Prelude.{slice_get}
use Rattle.std.proofs.lemmas.Bool.{ltb-true}
use Rattle.ii_base.specs.Words.{Word}
use Rattle.ii_snippet.specs.declared.windows.SnippetToken.{SnippetToken}

-- the first of the remaining tokens was marked
pub token_marked : (mark : Word → SnippetToken) (old new all : List SnippetToken) (rest after : List Word) (current : Option Word) (w : Word) → nat_lt 0 (length rest) ≡ true → current ≡ slice_get rest 0 → current ≡ Some w → after ≡ drop 1 rest
    → new ≡ old ++ mark w ∷ [] → old ++ map mark rest ≡ all → new ++ map mark after ≡ all
token_marked mark old new all [] after current w some is found left added before = absurd (omega (arith, ltb-true 0 0 some))
token_marked mark old new all (v ∷ vs) after current w some is found left added before =
    let same : Some w ≡ Some v = sym found ∙ is in
    let same_word : w ≡ v = cc in
    ap (λ (ts : List SnippetToken). ts ++ map mark after) (added ∙ ap (λ (u : Word). old ++ mark u ∷ []) same_word)
    ∙ ap (λ (us : List Word). (old ++ mark v ∷ []) ++ map mark us) left
    ∙ append_assoc old (mark v ∷ []) (map mark vs)
    ∙ before
