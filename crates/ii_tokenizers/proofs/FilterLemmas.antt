-- Laws of filters.
use Rattle.std.proofs.Common.{◌≡◌, ℕ, ◌+◌, ◌<◌, not, List, [], ◌∷◌, ◌++◌, Some, map, take, refl, sym, ap, ap₂, ◌∙◌, arith, append_assoc, drop}
use Rattle.std.specs.Prelude.{IsAscii, Option, chars, encode_utf8_all, slice_get}
use Rattle.std.specs.Char.{to_ascii_lowercase}
use Rattle.std.specs.List.{All}
use Rattle.std.proofs.lemmas.Bool.Decides.{nat_tests}
use Rattle.std.proofs.lemmas.List.{map-append, take_more}
use Rattle.std.proofs.lemmas.List.Elements.{All-head, All-rest, filter-append}
use Rattle.std.proofs.lemmas.Option.{get_or_from_slice_get, slice_get_within}
use Rattle.std.proofs.lemmas.Str.{chars-IsAscii, encodes-IsAscii}
use Rattle.std.proofs.lemmas.Str.Ascii.{IsAscii-map}
use Rattle.caseless.specs.Caseless.{default_case_fold}
use Rattle.caseless.proofs.CaselessLemmas.{All-chars, default_case_fold-ascii}
use Rattle.ii_base.specs.Words.{Word, lowercase_word}
use Rattle.ii_tokenizers.specs.Analyzers.{fold_case, is_stop_word, remove_stop, stem, stemmed}

-- ---- one token more

module _ (ws : List Word) (k : ℕ) (w : Word) (here : slice_get ws k ≡ Some w) where
  one_more : take (k + 1) ws ≡ take k ws ++ w ∷ []
  one_more = take_more ws k w (slice_get_within ws k w here) ∙ ap (λ (v : Word). take k ws ++ v ∷ []) (get_or_from_slice_get ws k w w here)

  -- it is changed
  pub changed_next : (change : Word → Word) (old new : List Word) → old ≡ map change (take k ws) → new ≡ old ++ change w ∷ [] → new ≡ map change (take (k + 1) ws)
  changed_next change old new is added =
      added ∙ ap (λ (vs : List Word). vs ++ change w ∷ []) is ∙ sym (ap (map change) one_more ∙ map-append change (take k ws) (w ∷ []))

-- ---- the words of English

-- the first word to come, and the others
pub first_to_come : (ws rest : List Word) (w : Word) (seen : Option Word) → seen ≡ slice_get ws 0 → seen ≡ Some w → rest ≡ drop 1 ws → ws ≡ w ∷ rest
first_to_come [] rest w seen first is after = absurd (cc (first, is))
first_to_come (v ∷ vs) rest w seen first is after =
    let same : v ≡ w = some_is (sym first ∙ is) in
    ap₂ (λ (x : Word) (xs : List Word). x ∷ xs) same (sym after)
  where
    some_is : Some v ≡ Some w → v ≡ w
    some_is e = cc e

-- a word less to come: its stem was added, unless it is a stop word
pub english_next : (stops : List (List ℕ)) (stems : List Word) (w : Word) (ws : List Word) → (stems ++ stem (remove_stop stops (w ∷ []))) ++ stem (remove_stop stops ws) ≡ stems ++ stem (remove_stop stops (w ∷ ws))
english_next stops stems w ws =
    append_assoc stems (stem (remove_stop stops (w ∷ []))) (stem (remove_stop stops ws))
    ∙ ap (λ (vs : List Word). stems ++ vs) (sym (map-append stemmed (remove_stop stops (w ∷ [])) (remove_stop stops ws)) ∙ ap stem (sym (filter-append (λ (v : Word). not (is_stop_word stops v.text)) (w ∷ []) ws)))

-- ---- the case of ASCII texts

-- the case of ASCII text is folded byte by byte
pub fold-ascii : (bs : List ℕ) → IsAscii bs → map to_ascii_lowercase bs ≡ encode_utf8_all (default_case_fold (chars bs))
fold-ascii bs ascii =
    let lower : IsAscii (map to_ascii_lowercase bs) = IsAscii-map to_ascii_lowercase bs lower_ascii ascii in
    sym (ap encode_utf8_all (default_case_fold-ascii (chars bs) (All-chars bs ascii) ∙ ap (map to_ascii_lowercase) (chars-IsAscii bs ascii))
    ∙ encodes-IsAscii (map to_ascii_lowercase bs) lower)
  where
    lower_ascii : (c : ℕ) → c < 128 → to_ascii_lowercase c < 128
    lower_ascii c below = grind (arith, nat_tests)

-- if all texts are ASCII
pub lowercase_folds : (ws : List Word) → All (λ (w : Word). IsAscii w.text) ws → map lowercase_word ws ≡ fold_case ws
lowercase_folds [] ascii = refl
lowercase_folds (w ∷ ws) ascii =
    ap₂ (λ (text : List ℕ) (vs : List Word). record w { text = text } ∷ vs) (fold-ascii w.text (All-head (λ (v : Word). IsAscii v.text) w ws ascii)) (lowercase_folds ws (All-rest (λ (v : Word). IsAscii v.text) w ws _ refl ascii))
