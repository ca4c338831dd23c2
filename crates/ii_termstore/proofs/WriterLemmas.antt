-- The blocks of a store, one after the other.
use Rattle.std.proofs.Common.{◌≡◌, ℕ, zero, suc, ◌+◌, ◌*◌, ◌<◌, ◌≤◌, List, [], ◌∷◌, ◌++◌, length, drop, map, get_or, refl, sym, ap, ◌∙◌, arith, append_assoc}
use Rattle.std.specs.List.{flat_map, range_with_len}
use Rattle.std.proofs.lemmas.List.{append-nil, get_or-take, get_or-drop, flat_map_more}
use Rattle.ii_termstore.specs.declared.term_info.TermInfo.{TermInfo}
use Rattle.ii_termstore.specs.declared.term_info_store.block_meta.TermInfoBlockMeta.{TermInfoBlockMeta as Meta}
use Rattle.ii_termstore.specs.TermInfos.{term_info_from}
use Rattle.ii_termstore.specs.Written.{info_in, first_of, largest, postings_after, positions_after, terms_of_block, FitsWidths, EndsFit, FitsBlock}
use Rattle.ii_termstore.proofs.ListLemmas.{range_more}

-- pieces one after the other
pub flat_more : (f : ℕ → List ℕ) (b : ℕ) → flat_map f (range_with_len 0 (b + 1)) ≡ flat_map f (range_with_len 0 b) ++ f b
flat_more f b =
    let here : 0 + b ≡ b = omega arith in
    rw (range_more 0 b, here) (sym (flat_map_more f [] (range_with_len 0 b) b))

pub flat_split : (f : ℕ → List ℕ) (n b m : ℕ) → n ≡ b + suc m → (rest : List ℕ) × (flat_map f (range_with_len 0 n) ≡ (flat_map f (range_with_len 0 b) ++ f b) ++ rest)
flat_split f n b zero e =
    let one : n ≡ b + 1 = omega arith in
    ([], rw (one, flat_more f b) (sym (append-nil (flat_map f (range_with_len 0 b) ++ f b))))
flat_split f n b (suc m) e =
    let ih = flat_split f (b + suc m) b m refl in
    let one : n ≡ b + suc m + 1 = omega arith in
    (ih.0 ++ f (b + suc m), rw (one, flat_more f (b + suc m)) (ap (λ (xs : List ℕ). xs ++ f (b + suc m)) ih.1 ∙ append_assoc (flat_map f (range_with_len 0 b) ++ f b) ih.0 (f (b + suc m))))

-- the first term of a block
first_of-get_or : (is : List TermInfo) → first_of is ≡ info_in is 0
first_of-get_or [] = refl
first_of-get_or (i ∷ is) = refl

pub first_is : (infos : List TermInfo) (b : ℕ) → first_of (terms_of_block infos b) ≡ info_in infos (256 * b)
first_is infos b =
    let place : 256 * b + 0 ≡ 256 * b = omega arith in
    let front = get_or-take 256 (drop (256 * b) infos) 0 (term_info_from 0 0 0 0 0) (omega arith) in
    first_of-get_or (terms_of_block infos b) ∙ front ∙ get_or-drop (256 * b) infos 0 (term_info_from 0 0 0 0 0) ∙ ap (info_in infos) place

-- each number is at most the largest
le_largest : {X : Type 0} (f : X → ℕ) (xs : List X) (k : ℕ) (d : X) → k < length xs → f (get_or xs k d) ≤ largest (map f xs)
le_largest f [] k d h = absurd (omega arith)
le_largest f (x ∷ xs) zero d h = omega arith
le_largest f (x ∷ xs) (suc k) d h = let ih = le_largest f xs k d (omega arith) in omega arith

pub terms_fit : (m : Meta) (others : List TermInfo) → FitsBlock m others → (k : ℕ) → k < length others → FitsWidths m (info_in others k)
terms_fit m others h k within =
    let a = h.doc_freq in
    let b = h.postings in
    let c = h.positions in
    let p = le_largest (λ (i : TermInfo). i.doc_freq) others k (term_info_from 0 0 0 0 0) within in
    let q = le_largest (postings_after m.ref_term_info) others k (term_info_from 0 0 0 0 0) within in
    let r = le_largest (positions_after m.ref_term_info) others k (term_info_from 0 0 0 0 0) within in
    record { doc_freq = omega arith; postings = omega arith; positions = omega arith }

pub ends_fit : (m : Meta) (others : List TermInfo) → FitsBlock m others → EndsFit m others
ends_fit m others h =
    let b = h.postings in
    let c = h.positions in
    record { postings = omega arith; positions = omega arith }
