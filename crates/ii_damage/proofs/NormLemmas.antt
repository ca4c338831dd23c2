-- Norms compared with numbers of tokens.
use Rattle.std.proofs.Common.{◌≡◌, ◌∙◌, ◌+◌, ◌-◌, ◌<◌, ◌≤◌, ◌==◌, ℕ, zero, suc, Bool, true, false, List, [], ◌∷◌, min, nat_le, None, Some, refl, sym, ap, arith, add-one}
use Rattle.std.specs.Prelude.{get_or}
use Rattle.std.specs.List.{find, range_with_len}
use Rattle.std.proofs.lemmas.Bool.{eq-eqb, leb-true, ne_eqb}
use Rattle.std.proofs.lemmas.List.Folds.{find-append}
use Rattle.std.proofs.lemmas.Option.{get_or_from_slice_get}
use Rattle.ii_base.proofs.AsciiLemmas.{range_more}
use Rattle.ii_base.specs.Entries.{Entry}
use Rattle.ii_fieldnorm.specs.Norms.{id_of_norm, norm_of_id}
use Rattle.ii_fieldnorm.proofs.NormLemmas.{id_of_norm-found}
use Rattle.ii_damage.specs.Damages.{is_other_norm, other_norm, tokens_of_doc, max_u32}
use Rattle.ii_damage.specs.Walked.{HasCounts}

top : (m : ℕ) → max_u32 ≤ m → id_of_norm m ≡ 255
unfolding norm_of_id
top m h = id_of_norm-found m 255 (omega arith) (omega (arith, h)) (λ more. absurd (omega (arith, more)))

-- the norm of more tokens than 32 bits count is that of the greatest number
norm_capped : (n : ℕ) → id_of_norm (min n max_u32) ≡ id_of_norm n
norm_capped n = by_case (nat_le n max_u32) refl
  where
    by_case : (b : Bool) → nat_le n max_u32 ≡ b → id_of_norm (min n max_u32) ≡ id_of_norm n
    by_case true is = ap id_of_norm (omega (arith, leb-true n max_u32 is))
    by_case false is =
        let over : max_u32 ≤ n = grind (arith, is) in
        let cut : min n max_u32 ≡ max_u32 = omega (arith, over) in
        ap id_of_norm cut ∙ top max_u32 (omega arith) ∙ sym (top n over)

-- No document before this one has another norm than that of its number of tokens.
abbrev pub NoneBefore : ℕ → List ℕ → List ℕ → ℕ → Type 0
NoneBefore num_docs ids counts doc = (es : List Entry) → HasCounts num_docs es counts → find (is_other_norm ids es) (range_with_len 0 doc) ≡ None

-- the norm of a document by its count
norm_at : (num_docs : ℕ) (es : List Entry) (counts : List ℕ) (doc d : ℕ) → doc < num_docs → HasCounts num_docs es counts → id_of_norm (get_or counts doc d) ≡ id_of_norm (tokens_of_doc doc es)
norm_at num_docs es counts doc d low has = ap id_of_norm (get_or_from_slice_get counts doc (min (tokens_of_doc doc es) max_u32) d (has.each doc low)) ∙ norm_capped (tokens_of_doc doc es)

one_more : (p : ℕ → Bool) (doc : ℕ) → find p (range_with_len 0 doc) ≡ None → find p (range_with_len 0 (suc doc)) ≡ find p (doc ∷ [])
one_more p doc none =
    let same : 0 + doc ≡ doc = omega arith in
    ap (find p) (range_more 0 doc) ∙ find-append p (range_with_len 0 doc) ((0 + doc) ∷ []) ∙ rw (none, same) refl

-- this one has its norm
pub none_next : (num_docs : ℕ) (ids counts : List ℕ) (doc d id : ℕ) → doc < num_docs → id ≡ id_of_norm (get_or counts doc d) → get_or ids doc 0 ≡ id → NoneBefore num_docs ids counts doc → NoneBefore num_docs ids counts (doc + 1)
none_next num_docs ids counts doc d id low id_is is none = λ es has.
    let same = eq-eqb (get_or ids doc 0) (id_of_norm (tokens_of_doc doc es)) (is ∙ id_is ∙ norm_at num_docs es counts doc d low has) in
    rw add-one (one_more (is_other_norm ids es) doc (none es has) ∙ rw same refl)

range_split : (p : ℕ → Bool) (n m : ℕ) (doc : ℕ) → find p (range_with_len 0 n) ≡ Some doc → find p (range_with_len 0 (n + m)) ≡ Some doc
range_split p n zero doc found = let same : n + 0 ≡ n = omega arith in rw same found
range_split p n (suc m) doc found =
    let more : n + suc m ≡ suc (n + m) = omega arith in
    rw more (ap (find p) (range_more 0 (n + m)) ∙ find-append p (range_with_len 0 (n + m)) ((0 + (n + m)) ∷ []) ∙ rw (range_split p n m doc found) refl)

-- this one has another
pub found_here : (num_docs : ℕ) (ids counts : List ℕ) (doc d id : ℕ) → doc < num_docs → id ≡ id_of_norm (get_or counts doc d) → (get_or ids doc 0 ≡ id → ⊥) → NoneBefore num_docs ids counts doc
    → (es : List Entry) → HasCounts num_docs es counts → Some doc ≡ other_norm num_docs ids es
found_here num_docs ids counts doc d id low id_is other none = λ es has.
    let norm : id ≡ id_of_norm (tokens_of_doc doc es) = id_is ∙ norm_at num_docs es counts doc d low has in
    let differs : (get_or ids doc 0 == id_of_norm (tokens_of_doc doc es)) ≡ false = rw (← norm) (ne_eqb (get_or ids doc 0) id other) in
    let here : find (is_other_norm ids es) (range_with_len 0 (suc doc)) ≡ Some doc = one_more (is_other_norm ids es) doc (none es has) ∙ rw differs refl in
    let all : suc doc + (num_docs - suc doc) ≡ num_docs = omega (arith, low) in
    sym (ap (λ (n : ℕ). find (is_other_norm ids es) (range_with_len 0 n)) (sym all) ∙ range_split (is_other_norm ids es) (suc doc) (num_docs - suc doc) doc here)
