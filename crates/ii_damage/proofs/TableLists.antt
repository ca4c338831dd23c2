-- The damages of the four tables.
use Rattle.std.proofs.Common.{◌≡◌, ◌∙◌, List, [], ◌∷◌, ◌++◌, append-nil, Option, None, Some, refl, sym, ap}
use Rattle.std.specs.List.{cons_option}
use Rattle.std.specs.Option.{option_to_list}

as_front : {X : Type 0} (o : Option X) (xs : List X) → cons_option o xs ≡ option_to_list o ++ xs
as_front None xs = refl
as_front (Some x) xs = refl

-- four that are added one after the other
pub four : {X : Type 0} (a b c d : Option X) (first second third all : List X) → first ≡ [] ++ option_to_list a → second ≡ first ++ option_to_list b → third ≡ second ++ option_to_list c → all ≡ third ++ option_to_list d
    → all ≡ cons_option a (cons_option b (cons_option c (cons_option d [])))
four None None None d first second third all f s t a = a ∙ ap (λ l. l ++ option_to_list d) (t ∙ ap (λ l. l ++ []) (s ∙ ap (λ l. l ++ []) f)) ∙ sym (as_front d [] ∙ append-nil (option_to_list d))
four None None (Some z) d first second third all f s t a = a ∙ ap (λ l. l ++ option_to_list d) (t ∙ ap (λ l. l ++ z ∷ []) (s ∙ ap (λ l. l ++ []) f)) ∙ ap (λ l. z ∷ l) (sym (as_front d [] ∙ append-nil (option_to_list d)))
four None (Some y) None d first second third all f s t a = a ∙ ap (λ l. l ++ option_to_list d) (t ∙ ap (λ l. l ++ []) (s ∙ ap (λ l. l ++ y ∷ []) f)) ∙ ap (λ l. y ∷ l) (sym (as_front d [] ∙ append-nil (option_to_list d)))
four None (Some y) (Some z) d first second third all f s t a = a ∙ ap (λ l. l ++ option_to_list d) (t ∙ ap (λ l. l ++ z ∷ []) (s ∙ ap (λ l. l ++ y ∷ []) f)) ∙ ap (λ l. y ∷ z ∷ l) (sym (as_front d [] ∙ append-nil (option_to_list d)))
four (Some x) None None d first second third all f s t a = a ∙ ap (λ l. l ++ option_to_list d) (t ∙ ap (λ l. l ++ []) (s ∙ ap (λ l. l ++ []) f)) ∙ ap (λ l. x ∷ l) (sym (as_front d [] ∙ append-nil (option_to_list d)))
four (Some x) None (Some z) d first second third all f s t a = a ∙ ap (λ l. l ++ option_to_list d) (t ∙ ap (λ l. l ++ z ∷ []) (s ∙ ap (λ l. l ++ []) f)) ∙ ap (λ l. x ∷ z ∷ l) (sym (as_front d [] ∙ append-nil (option_to_list d)))
four (Some x) (Some y) None d first second third all f s t a = a ∙ ap (λ l. l ++ option_to_list d) (t ∙ ap (λ l. l ++ []) (s ∙ ap (λ l. l ++ y ∷ []) f)) ∙ ap (λ l. x ∷ y ∷ l) (sym (as_front d [] ∙ append-nil (option_to_list d)))
four (Some x) (Some y) (Some z) d first second third all f s t a = a ∙ ap (λ l. l ++ option_to_list d) (t ∙ ap (λ l. l ++ z ∷ []) (s ∙ ap (λ l. l ++ y ∷ []) f)) ∙ ap (λ l. x ∷ y ∷ z ∷ l) (sym (as_front d [] ∙ append-nil (option_to_list d)))
