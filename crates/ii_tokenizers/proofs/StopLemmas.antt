-- Stop words: the keys of a set, as bytes.
use Rattle.std.proofs.Common.{◌≡◌, ℕ, Bool, true, false, ◌||◌, List, [], ◌∷◌, ◌++◌, map, refl, ap, ◌∙◌}
use Rattle.std.specs.Prelude.{bytes_eq, if◌then◌else◌}
use Rattle.std.specs.List.{list_any}
use Rattle.std.proofs.lemmas.List.{map-append}
use Rattle.indexmap.specs.IndexSet.{insert_key}
use Rattle.ii_tokenizers.specs.Analyzers.{folded_text, is_stop_word, with_stop_word}

any_mapped : {K L : Type 0} (f : K → L) (p : L → Bool) (ks : List K) → list_any (λ (k : K). p (f k)) ks ≡ list_any p (map f ks)
any_mapped f p [] = refl
any_mapped f p (k ∷ ks) = ap (λ (b : Bool). p (f k) || b) (any_mapped f p ks)

module _ {K : Type 0} (f : K → List ℕ) (stops : List (List ℕ)) (keys : List K) (seen : map f keys ≡ stops) where
  pub found_key : (text : List ℕ) → list_any (λ (k : K). bytes_eq text (f k)) keys ≡ is_stop_word stops text
  found_key text = any_mapped f (bytes_eq text) keys ∙ ap (list_any (bytes_eq text)) seen

  pub one_key_more : (k : K) (word : List ℕ) → f k ≡ folded_text word → map f (insert_key (λ (x y : K). bytes_eq (f x) (f y)) keys k) ≡ with_stop_word stops word
  one_key_more k word is = rw (is, found_key (folded_text word)) (by_case (is_stop_word stops (folded_text word)))
    where
      by_case : (b : Bool) → map f (if b then keys else keys ++ k ∷ []) ≡ (if b then stops else stops ++ folded_text word ∷ [])
      by_case true = seen
      by_case false = map-append f keys (k ∷ []) ∙ ap (λ (ws : List (List ℕ)). ws ++ f k ∷ []) seen ∙ ap (λ (w : List ℕ). stops ++ w ∷ []) is
