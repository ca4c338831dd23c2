-- Laws of what is printed.
use Rattle.std.proofs.Common.{◌≡◌, ℕ, ◌<◌, List, [], ◌∷◌, ◌++◌, drop, map, refl, sym, ap, arith, codes, decimal}
use Rattle.std.specs.List.{join_with_byte, flat_map}
use Rattle.std.proofs.lemmas.List.{append-nil}
use Rattle.ii_base.specs.declared.schema.index_record_option.IndexRecordOption.{IndexRecordOption}
use Rattle.ii_base.specs.declared.schema.index_record_option.IndexRecordOption.TheVariants.{Basic}
use Rattle.ii_base.specs.declared.doc_id.TheConstants.{TERMINATED}
use Rattle.ii_base.specs.Entries.{Entry}
use Rattle.ii_docset.specs.Cursor.{doc_at, IsAscending}
use Rattle.iiq.specs.Output.{found_text, item, item_at, list_text, positions_text}
use Rattle.ii_docset.proofs.CursorLemmas.{nothing_left, doc_below}

-- the items after the first one
abbrev pub more_items : IndexRecordOption → List Entry → List ℕ
more_items option es = flat_map (λ (e : Entry). 32 ∷ item option e) es

joined : (option : IndexRecordOption) (x : Entry) (xs : List Entry) → join_with_byte 32 (map (item option) (x ∷ xs)) ≡ item option x ++ more_items option xs
joined option x [] = sym (append-nil (item option x))
joined option x (y ∷ ys) = ap (λ (text : List ℕ). item option x ++ 32 ∷ text) (joined option y ys)

-- the first item, and those after it
pub list_text_first : (option : IndexRecordOption) (es : List Entry) → doc_at es < TERMINATED → list_text option es ≡ item_at option es ++ more_items option (drop 1 es)
list_text_first option [] h = absurd (omega arith)
list_text_first option (e ∷ es) h = joined option e es

pub more_items_next : (option : IndexRecordOption) (es : List Entry) → doc_at es < TERMINATED → more_items option es ≡ (32 ∷ item_at option es) ++ more_items option (drop 1 es)
more_items_next option [] h = absurd (omega arith)
more_items_next option (e ∷ es) h = refl

pub list_text_none : (option : IndexRecordOption) (es : List Entry) → IsAscending es → doc_at es ≡ TERMINATED → list_text option es ≡ 45 ∷ []
list_text_none option [] up h = refl
list_text_none option (e ∷ es) up h = absurd (let none = nothing_left (e ∷ es) up (omega arith) in cc)

pub more_items_none : (option : IndexRecordOption) (es : List Entry) → IsAscending es → doc_at es ≡ TERMINATED → more_items option es ≡ []
more_items_none option [] up h = refl
more_items_none option (e ∷ es) up h = absurd (let none = nothing_left (e ∷ es) up (omega arith) in cc)

pub below_end : (es : List Entry) (doc : ℕ) → IsAscending es → doc ≡ doc_at es → (doc ≡ TERMINATED → ⊥) → doc_at es < TERMINATED
below_end es doc up e h = let most = doc_below es up in omega arith

-- the first document that was found, and those after it
pub found_first : (es : List Entry) → doc_at es < TERMINATED → found_text es ≡ decimal (doc_at es) ++ more_items Basic (drop 1 es)
found_first [] h = absurd (omega arith)
found_first (e ∷ es) h = joined Basic e es

pub found_none : (es : List Entry) → IsAscending es → doc_at es ≡ TERMINATED → found_text es ≡ codes "none"
found_none [] up h = refl
found_none (e ∷ es) up h = absurd (let none = nothing_left (e ∷ es) up (omega arith) in cc)

pub more_found : (es : List Entry) → doc_at es < TERMINATED → more_items Basic es ≡ (32 ∷ decimal (doc_at es)) ++ more_items Basic (drop 1 es)
more_found [] h = absurd (omega arith)
more_found (e ∷ es) h = refl

-- the numbers after the first one
abbrev pub more_numbers : List ℕ → List ℕ
more_numbers ns = flat_map (λ n. 44 ∷ decimal n) ns

pub numbers_text : (n : ℕ) (ns : List ℕ) → positions_text (n ∷ ns) ≡ decimal n ++ more_numbers ns
numbers_text n [] = sym (append-nil (decimal n))
numbers_text n (m ∷ ms) = ap (λ (text : List ℕ). decimal n ++ 44 ∷ text) (numbers_text m ms)
