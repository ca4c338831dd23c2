-- A block of strict deltas ascends, so that its last document decides whether it fits.
use Rattle.std.proofs.Common.{◌≡◌, ℕ, ◌+◌, ◌*◌, ◌≤◌, Bool, true, ◌&&◌, List, [], ◌∷◌, length, get_or, eqb, nat_le, nat_lt, Option, Some, None, refl, ap, ◌∙◌, arith, ⊎_elim}
use Rattle.std.proofs.Math.Bool.{and-false, and-true}
use Rattle.std.proofs.lemmas.Bool.{cases_lt, le-leb, lt-ltb, le-ltb}
use Rattle.std.specs.Option.{option_map}
use Rattle.ii_io.specs.Steps.{needs}
use Rattle.ii_io.specs.StepLemmas.{step-some, some-same}
use Rattle.ii_base.specs.declared.doc_id.TheConstants.{TERMINATED}
use Rattle.ii_base.specs.Entries.{ascend_from}
use Rattle.ii_codes.specs.Packed.{unpacked}
use Rattle.ii_codes.specs.Blocks.{least_first, values_from, sorted_values, sorted_block_at}
use Rattle.ii_codes.specs.Sums.{fit_u32}
use Rattle.ii_codes.proofs.PackedLaws.{length-unpacked}
use Rattle.ii_check.specs.Check.{fits_by}

last_ge : (first e : ℕ) (es : List ℕ) → first + e ≤ get_or (values_from 1 first (e ∷ es)) (length es) 0
last_ge first e [] = omega arith
last_ge first e (f ∷ fs) = let ih = last_ge (first + e + 1) f fs in omega arith

ascend_one : (least d : ℕ) (t : Bool) → least ≤ d → (nat_le least d && nat_lt d TERMINATED && t) ≡ (nat_lt d TERMINATED && t)
ascend_one least d t up = rw (le-leb least d up) refl

ascend_last : (least first e : ℕ) (es : List ℕ) → least ≤ first → ascend_from least (values_from 1 first (e ∷ es)) ≡ nat_lt (get_or (values_from 1 first (e ∷ es)) (length es) 0) TERMINATED
ascend_last least first e [] up = ascend_one least (first + e) (ascend_from (first + e + 1) []) (omega arith) ∙ and-true (nat_lt (first + e) TERMINATED)
ascend_last least first e (f ∷ fs) up =
    let ih = ascend_last (first + e + 1) (first + e + 1) f fs (omega arith) in
    let more = last_ge (first + e + 1) f fs in
    ascend_one least (first + e) (ascend_from (first + e + 1) (values_from 1 (first + e + 1) (f ∷ fs))) (omega arith)
    ∙ ⊎_elim
    (λ below. rw (lt-ltb (first + e) TERMINATED (omega arith)) ih)
    (λ above. rw (ih, le-ltb (get_or (values_from 1 (first + e + 1) (f ∷ fs)) (length fs) 0) TERMINATED above) (and-false (nat_lt (first + e) TERMINATED)))
    (cases_lt (get_or (values_from 1 (first + e + 1) (f ∷ fs)) (length fs) 0) TERMINATED)

block_ascends : (least first : ℕ) (es : List ℕ) → length es ≡ 128 → least ≤ first → ascend_from least (values_from 1 first es) ≡ nat_lt (get_or (values_from 1 first es) 127 0) TERMINATED
block_ascends least first [] many up = absurd (omega arith)
block_ascends least first (e ∷ es) many up =
    let others : length es ≡ 127 = omega arith in
    rw others at (ascend_last least first e es up)

-- the values of a block of strict deltas
strict_values : (before w : ℕ) (bytes docs rest : List ℕ) → sorted_block_at true before w bytes ≡ Some (docs, rest) → values_from 1 (least_first true before) (unpacked w bytes) ≡ docs
unfolding sorted_block_at
strict_values before w bytes docs rest e =
    let first = step-some (needs (nat_le w 32)) _ (docs, rest) e in
    let second = step-some (needs (nat_le (16 * w) (length bytes))) _ (docs, rest) first.2 in
    let third = step-some (needs (fit_u32 (sorted_values true before (unpacked w bytes)))) _ (docs, rest) second.2 in
    ap (λ (p : List ℕ × List ℕ). p.0) (some-same third.2)

abbrev last_in : Option (List ℕ × List ℕ) → Option ℕ
last_in found = option_map (λ (block : List ℕ × List ℕ). get_or block.0 127 0) found

abbrev ends_in : ℕ → ℕ → List ℕ → Bool
ends_in last_doc least docs = eqb (get_or docs 127 0) last_doc && ascend_from least docs

some_fits : (before w last last_doc least : ℕ) (bytes : List ℕ) (o : Option (List ℕ × List ℕ)) → sorted_block_at true before w bytes ≡ o → least ≤ least_first true before → Some last ≡ last_in o
    → (eqb last last_doc && nat_lt last TERMINATED) ≡ fits_by (ends_in last_doc least) o
some_fits before w last last_doc least bytes None e up h = absurd (cc)
some_fits before w last last_doc least bytes (Some (docs, rest)) e up h =
    let values = strict_values before w bytes docs rest e in
    let ascends = rw values at (block_ascends least (least_first true before) (unpacked w bytes) (length-unpacked w bytes) up) in
    let is : last ≡ get_or docs 127 0 = some-same h in
    rw (is, ascends) refl

pub strict_some : (before w last last_doc least : ℕ) (bytes : List ℕ) → least ≤ least_first true before → Some last ≡ last_in (sorted_block_at true before w bytes)
    → (eqb last last_doc && nat_lt last TERMINATED) ≡ fits_by (ends_in last_doc least) (sorted_block_at true before w bytes)
strict_some before w last last_doc least bytes up h = some_fits before w last last_doc least bytes (sorted_block_at true before w bytes) refl up h
