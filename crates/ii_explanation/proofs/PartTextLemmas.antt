-- The text of a part of a query.
use Rattle.std.proofs.Common.{◌≡◌, ◌≢◌, ◌∙◌, ℕ, zero, suc, ◌+◌, ◌-◌, List, [], ◌∷◌, ◌++◌, Option, None, Some, Result, Ok, Err, OnOk, MatchOption, if◌then◌else◌, add-one, ap, append_assoc, codes, sym}
use Rattle.std.specs.List.{repeat}
use Rattle.std.specs.Result.{is_ok}
use Rattle.std.proofs.lemmas.List.{append-nil}
use Rattle.ii_base.specs.ValueTypes.{code_of}
use Rattle.ii_base.specs.declared.schema.value_type.ValueType.{ValueType}
use Rattle.ii_base.specs.Terms.{TermState}
use Rattle.ii_query_parser.specs.declared.query.PhraseTerm.{PhraseTerm}
use Rattle.ii_term_text.specs.KeyTexts.{text_of_key, type_of_letter}
use Rattle.ii_term_text.proofs.KeyLaws.{letter_type}
use Rattle.ii_term_text.proofs.KeyLemmas.{no_letter}
use Rattle.ii_explanation.specs.PartTexts.{last_distance, later_terms, phrase_text}

-- the type that has a letter
pub type_found : (letter : ℕ) (found : Option ValueType) → MatchOption found ((t : ValueType) → code_of t ≢ letter) (λ t. code_of t ≡ letter) → found ≡ type_of_letter letter
type_found letter None none = sym (no_letter letter none)
type_found letter (Some t) is = sym (letter_type t) ∙ ap type_of_letter is

one_more : (n : ℕ) (xs : List ℕ) → repeat (suc n) xs ≡ repeat n xs ++ xs
one_more zero xs = append-nil xs
one_more (suc n) xs = ap (λ (ys : List ℕ). xs ++ ys) (one_more n xs) ∙ sym (append_assoc xs (repeat n xs) xs)

-- a list once more
pub repeat_more : (n : ℕ) (xs : List ℕ) → repeat (n + 1) xs ≡ repeat n xs ++ xs
repeat_more n xs = ap (λ (k : ℕ). repeat k xs) (add-one n) ∙ one_more n xs

-- one term more after the others of a phrase
later_last : (t : ValueType) (last : ℕ) (os : List PhraseTerm) (o : PhraseTerm)
    → later_terms t last (os ++ o ∷ []) ≡ later_terms t last os ++ (repeat (o.distance - last_distance last os - 1) (codes " ?") ++ 32 ∷ text_of_key t o.term.value)
later_last t last [] o = append-nil (repeat (o.distance - last - 1) (codes " ?") ++ 32 ∷ text_of_key t o.term.value)
later_last t last (q ∷ os) o =
    let one = repeat (q.distance - last - 1) (codes " ?") ++ 32 ∷ text_of_key t q.term.value in
    ap (λ (text : List ℕ). one ++ text) (later_last t q.distance os o)
    ∙ sym (append_assoc one (later_terms t q.distance os) (repeat (o.distance - last_distance q.distance os - 1) (codes " ?") ++ 32 ∷ text_of_key t o.term.value))

-- the text of a phrase and `*`, put together
pub with_star : (text : List ℕ) (t : ValueType) (first : TermState) (os : List PhraseTerm) (o : PhraseTerm)
    → ((text ++ 34 ∷ (text_of_key t first.value ++ later_terms t 0 os)) ++ (repeat (o.distance - last_distance 0 os - 1) (codes " ?") ++ 32 ∷ text_of_key t o.term.value)) ++ codes "\"*"
    ≡ (text ++ phrase_text first (os ++ o ∷ []) t) ++ codes "*"
with_star text t first os o =
    let key = text_of_key t first.value in
    let later = later_terms t 0 os in
    let one = repeat (o.distance - last_distance 0 os - 1) (codes " ?") ++ 32 ∷ text_of_key t o.term.value in
    let all = later_terms t 0 (os ++ o ∷ []) in
    let quoted = 34 ∷ (key ++ all) in
    ap (λ (begun : List ℕ). begun ++ codes "\"*") (append_assoc text (34 ∷ (key ++ later)) one ∙ ap (λ (end : List ℕ). text ++ 34 ∷ end) (append_assoc key later one ∙ ap (λ (end : List ℕ). key ++ end) (sym (later_last t 0 os o))))
    ∙ sym (append_assoc (text ++ quoted) (34 ∷ []) (codes "*"))
    ∙ ap (λ (begun : List ℕ). begun ++ codes "*") (append_assoc text quoted (34 ∷ []))

-- what was appended, if it could be
pub if_appended : {A E : Type 0} (r : Result A E) (new all old wanted : List ℕ) → new ≡ (if is_ok r then all else old) → all ≡ wanted → OnOk r (new ≡ wanted)
if_appended (Ok x) new all old wanted is same = is ∙ same
if_appended (Err e) new all old wanted is same = tt
