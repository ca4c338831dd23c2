-- The fault for leaves after others.
use Rattle.std.proofs.Common.{◌≡◌, ◌⊎◌, ℕ, ◌-◌, length, length-append, take, arith, List, [], ◌∷◌, ◌++◌, append_assoc, append-nil, Option, None, Some, inl, inr, refl, sym, ap, subst, ◌∙◌}
use Rattle.ii_io.specs.declared.faults.Fault.{Fault}
use Rattle.ii_io.specs.declared.faults.Fault.TheVariants.{OutOfMemory}
use Rattle.std.proofs.Math.Seq.{take-append_seam}
use Rattle.ii_base.specs.Json.{Leaf}
use Rattle.ii_base.specs.Paths.{PathState, segment_bytes}
use Rattle.ii_json.specs.Branches.{with_key, without_last}
use Rattle.ii_json.specs.LeafVisit.{first_fault, leaves_fault}

abbrev pub AtPath : Type 0
AtPath = List ℕ × Leaf

abbrev pub LeafFault : Type 0
LeafFault = List AtPath → AtPath → Option Fault

pub first_fault-assoc : (a b c : Option Fault) → first_fault a (first_fault b c) ≡ first_fault (first_fault a b) c
first_fault-assoc None b c = refl
first_fault-assoc (Some f) b c = refl

pub leaves_fault-append : (fault : LeafFault) (before one rest : List AtPath) → leaves_fault fault before (one ++ rest) ≡ first_fault (leaves_fault fault before one) (leaves_fault fault (before ++ one) rest)
leaves_fault-append fault before [] rest = ap (λ (l : List AtPath). leaves_fault fault l rest) (sym (append-nil before))
leaves_fault-append fault before (l ∷ one) rest =
    ap (first_fault (fault before l)) (leaves_fault-append fault (before ++ l ∷ []) one rest ∙ ap (λ (k : List AtPath). first_fault (leaves_fault fault (before ++ l ∷ []) one) (leaves_fault fault k rest)) (append_assoc before (l ∷ []) one))
    ∙ first_fault-assoc (fault before l) (leaves_fault fault (before ++ l ∷ []) one) (leaves_fault fault (before ++ (l ∷ one)) rest)

-- the fault of a first part is that of the complete list
cause_first : (cause later : Option Fault) (e : Fault) → (e ≡ OutOfMemory) ⊎ (cause ≡ Some e) → (e ≡ OutOfMemory) ⊎ (first_fault cause later ≡ Some e)
cause_first cause later e (inl memory) = inl memory
cause_first cause later e (inr is) = inr (ap (λ (c : Option Fault). first_fault c later) is)

module _ {S Given Constant : Type 0} (constant : S → Constant) (ready : S → Type 0) (holds : S → Given → List AtPath → Type 0) (fault : Constant → Given → LeafFault) (start now : S) (all rest : List AtPath) where
  -- Leaves were passed on: what is held now, with the remaining leaves, gives what the complete list gives.
  pub record IsHanding : Type 0 where
    pub same : constant now ≡ constant start
    pub is_ready : ready now
    pub held : (given : Given) (before : List AtPath) → holds start given before
        → (taken : List AtPath) × (holds now given taken) × (taken ++ rest ≡ before ++ all) × (leaves_fault (fault (constant start) given) before all ≡ leaves_fault (fault (constant start) given) taken rest)

module _ {S Given Constant : Type 0} (constant : S → Constant) (ready : S → Type 0) (holds : S → Given → List AtPath → Type 0) (fault : Constant → Given → LeafFault) (start now : S) (all rest : List AtPath) where
  pub handed_same : (more : List AtPath) → IsHanding constant ready holds fault start now all rest → rest ≡ more → IsHanding constant ready holds fault start now all more
  handed_same more is same = subst (IsHanding constant ready holds fault start now all) same is

module _ {S Given Constant : Type 0} (constant : S → Constant) (ready : S → Type 0) (holds : S → Given → List AtPath → Type 0) (fault : Constant → Given → LeafFault) (start now : S) (all rest : List AtPath) where
  pub handed_more : (after : S) (one more : List AtPath) → IsHanding constant ready holds fault start now all rest → rest ≡ one ++ more → ready after
      → ((given : Given) (before : List AtPath) → holds now given before → holds after given (before ++ one))
      → ((given : Given) (before : List AtPath) → holds now given before → leaves_fault (fault (constant now) given) before one ≡ None)
      → constant after ≡ constant now → IsHanding constant ready holds fault start after all more
  handed_more after one more is step goes takes fine kept = record {
    same = kept ∙ is.same;
    is_ready = goes;
    held = λ given before h.
        let k = is.held given before h in
        let f = fault (constant start) given in
        let none : leaves_fault f k.0 one ≡ None = ap (λ (c : Constant). leaves_fault (fault c given) k.0 one) (sym is.same) ∙ fine given k.0 k.1 in (
          k.0 ++ one,
          takes given k.0 k.1,
          append_assoc k.0 one more ∙ ap (λ (l : List AtPath). k.0 ++ l) (sym step) ∙ k.2,
          k.3 ∙ ap (leaves_fault f k.0) step ∙ leaves_fault-append f k.0 one more ∙ ap (λ (c : Option Fault). first_fault c (leaves_fault f (k.0 ++ one) more)) none,
        );
  }

  pub handed_refused : (one more : List AtPath) (e : Fault) → IsHanding constant ready holds fault start now all rest → rest ≡ one ++ more
      → ((given : Given) (b : List AtPath) → holds now given b → (e ≡ OutOfMemory) ⊎ (leaves_fault (fault (constant now) given) b one ≡ Some e))
      → (given : Given) (before : List AtPath) → holds start given before → (e ≡ OutOfMemory) ⊎ (leaves_fault (fault (constant start) given) before all ≡ Some e)
  handed_refused one more e is step refused given before h =
      let k = is.held given before h in
      let f = fault (constant start) given in
      let cause : (e ≡ OutOfMemory) ⊎ (leaves_fault f k.0 one ≡ Some e) = subst (λ (c : Constant). (e ≡ OutOfMemory) ⊎ (leaves_fault (fault c given) k.0 one ≡ Some e)) is.same (refused given k.0 k.1) in
      let whole = k.3 ∙ ap (leaves_fault f k.0) step ∙ leaves_fault-append f k.0 one more in
      subst (λ (c : Option Fault). (e ≡ OutOfMemory) ⊎ (c ≡ Some e)) (sym whole) (cause_first (leaves_fault f k.0 one) (leaves_fault f (k.0 ++ one) more) e cause)

pub key_popped : (at : PathState) (key : List ℕ) → without_last (with_key at key) ≡ at
key_popped at key =
    let len : length (at.segments ++ segment_bytes at.expand_dots key ∷ []) - 1 ≡ length at.segments = omega (arith, length-append at.segments (segment_bytes at.expand_dots key ∷ [])) in
    let back : take (length (at.segments ++ segment_bytes at.expand_dots key ∷ []) - 1) (at.segments ++ segment_bytes at.expand_dots key ∷ []) ≡ at.segments = rw len (take-append_seam at.segments (segment_bytes at.expand_dots key ∷ [])) in
    let made : List (List ℕ) → PathState = λ s. record { segments = s; expand_dots = at.expand_dots } in
    ap made back
