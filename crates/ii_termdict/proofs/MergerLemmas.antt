-- Laws of the terms that are still to come.
use Rattle.std.proofs.Common.{◌≡◌, ℕ, zero, suc, ◌+◌, Bool, true, false, not, if◌then◌else◌, nat_lt, List, [], ◌∷◌, ◌++◌, length, drop, get_or, map, take, ◌<◌, Option, Some, None, refl, sym, ap, ◌∙◌, arith}
use Rattle.std.specs.Prelude.{bytes_eq, slice_get}
use Rattle.std.proofs.Math.Seq.{drop-nil}
use Rattle.std.proofs.lemmas.Bool.{le-ltb, lt-ltb, ltb-false, ltb-true}
use Rattle.std.specs.Borrow.{Bor}
use Rattle.std.specs.Option.{option_map, option_to_list}
use Rattle.ii_termstore.specs.declared.term_info.TermInfo.{TermInfo}
use Rattle.ii_termdict.specs.Dictionary.{TermEntry, entry_infos, entry_keys}
use Rattle.std.proofs.lemmas.List.{map-append, take_more}
use Rattle.ii_termdict.specs.TermMerger.{behind_key, first_info}

-- a term as it is borrowed from a dictionary
abbrev Borrowed : Type 0
Borrowed = Bor (List ℕ) × TermInfo

abbrev pub coming_of : Option Borrowed → ℕ → List TermEntry → List TermEntry
coming_of first passed es = option_to_list (option_map (λ (t : Borrowed). (t.0.now, t.1)) first) ++ drop passed es

-- the terms after the next one was read
pub coming_next : (first : Option Borrowed) (es : List TermEntry) (p : ℕ) → option_map (λ (t : Borrowed). t.0.now) first ≡ slice_get (entry_keys es) p → option_map (λ (t : Borrowed). t.1) first ≡ slice_get (entry_infos es) p
    → coming_of first (if nat_lt p (length es) then p + 1 else p) es ≡ drop p es
coming_next None [] p key info = rw (drop-nil (if nat_lt p 0 then p + 1 else p), drop-nil p) refl
coming_next (Some t) [] p key info = absurd (cc)
coming_next None (e ∷ es) zero key info = absurd (cc)
coming_next (Some t) (e ∷ es) zero key info =
    let key_is : t.0.now ≡ e.0 = cc in
    let info_is : t.1 ≡ e.1 = cc in
    let some : nat_lt 0 (suc (length es)) ≡ true = lt-ltb 0 (suc (length es)) (omega arith) in
    rw (key_is, info_is, some) refl
coming_next first (e ∷ es) (suc p) key info = by_case (nat_lt p (length es)) refl (coming_next first es p key info)
  where
    by_case : (b : Bool) → nat_lt p (length es) ≡ b → coming_of first (if nat_lt p (length es) then p + 1 else p) es ≡ drop p es → coming_of first (if nat_lt (suc p) (suc (length es)) then suc p + 1 else suc p) (e ∷ es) ≡ drop p es
    by_case true is rest =
        let one : suc p + 1 ≡ suc (p + 1) = omega arith in
        let more : nat_lt (suc p) (suc (length es)) ≡ true = lt-ltb (suc p) (suc (length es)) (omega (arith, ltb-true p (length es) is)) in
        rw (more, one) (rw is at rest)
    by_case false is rest =
        let none : nat_lt (suc p) (suc (length es)) ≡ false = le-ltb (suc p) (suc (length es)) (omega (arith, ltb-false p (length es) is)) in
        rw none (rw is at rest)

-- the terms after the first one, which has the key
pub behind_first : (key : List ℕ) (e : TermEntry) (es : List TermEntry) → bytes_eq key e.0 ≡ true → behind_key key (e ∷ es) ≡ es
behind_first key e es same = rw same refl

pub not_false : (b : Bool) → not b ≡ false → b ≡ true
not_false true is = refl
not_false false is = absurd (cc)

-- the next item of a list whose first items were changed
pub over_here : {X : Type 0} (f : X → X) (xs : List X) (i : ℕ) (d : X) → i < length xs → get_or (map f (take i xs) ++ drop i xs) i d ≡ get_or xs i d
over_here f [] i d within = absurd (omega (arith, within))
over_here f (x ∷ xs) zero d within = refl
over_here f (x ∷ xs) (suc i) d within = over_here f xs i d (omega (arith, within))

-- one info more
pub infos_more : (key : List ℕ) (ess : List (List TermEntry)) (i : ℕ) (es : List TermEntry) (infos : List (Option TermInfo)) (info : Option TermInfo) → i < length ess → es ≡ get_or ess i es → infos ≡ map (first_info key) (take i ess) → info ≡ first_info key es
    → infos ++ info ∷ [] ≡ map (first_info key) (take (i + 1) ess)
infos_more key ess i es infos info within here before is =
    ap (λ (l : List (Option TermInfo)). l ++ info ∷ []) before
    ∙ ap (λ (o : Option TermInfo). map (first_info key) (take i ess) ++ o ∷ []) is
    ∙ sym (map-append (first_info key) (take i ess) (es ∷ []))
    ∙ ap (map (first_info key)) (ap (λ (e : List TermEntry). take i ess ++ e ∷ []) here ∙ sym (take_more ess i es within))
