use Rattle.std.proofs.Common.{◌≡◌, ℕ, ◌*◌, not, refl, sym, length, take, drop, arith, ap, ◌∙◌, List, Bool, Result, Ok, Err, IsErr, IsErrAnd, IsErrOf}
use Rattle.std.specs.Prelude.{Some, None}
use Rattle.std.specs.List.{list_all}
use Rattle.ii_alive.specs.declared.faults.AliveFault.{AliveFault}
use Rattle.ii_alive.specs.declared.faults.AliveFault.TheVariants.{Damaged, OutOfMemory}
use Rattle.ii_alive.specs.AliveBytes.{alive_of, byte_bits, num_words}
use Rattle.ii_alive.proofs.FlagLemmas.{alive_of-bits, alive_of-size, alive_of-unused}
use Rattle.ii_alive.proofs.alive_bits.AliveBits.open.Goals as goal

-- an allocation failure
not_damaged : {A : Type 0} (r : Result A AliveFault) → IsErr r → IsErrAnd r (λ (e : AliveFault). e ≡ OutOfMemory) → IsErrOf r Damaged → ⊥
not_damaged (Ok a) told only is = cc
not_damaged (Err e) told only is = cc

some_flags : (n : ℕ) (bytes : List ℕ) (alive : List Bool) → alive_of n bytes ≡ Some alive → alive_of n bytes ≡ None → ⊥
some_flags n bytes alive some none = cc

pub overflow_mul-num_words_of : goal.overflow_mul-num_words_of
overflow_mul-num_words_of c = omega (arith, c.num_words_of.ensures.few)

pub returns-then-bytes-num_words_of-clause-damaged : goal.returns-then-bytes-num_words_of-clause-damaged
returns-then-bytes-num_words_of-clause-damaged c =
    let none = alive_of-size c.args.num_docs c.args.bytes.now (λ size. c.if-bytes-num_words_of.true (omega (arith, size, c.num_words_of.ensures.words))) in
    (λ _. none, λ _. refl)

pub returns-then-not-has_zero_tail-clause-damaged : goal.returns-then-not-has_zero_tail-clause-damaged
returns-then-not-has_zero_tail-clause-damaged c =
    let none = alive_of-unused c.args.num_docs c.args.bytes.now (sym c.if-not-has_zero_tail.ensures) in
    (λ _. none, λ _. refl)

pub returns-in_err-words-clause-damaged : goal.returns-in_err-words-clause-damaged
returns-in_err-words-clause-damaged c =
    let n = c.args.num_docs in
    let bytes = c.args.bytes.now in
    let size : length bytes ≡ 8 * num_words n = omega (arith, c.if-bytes-num_words_of.false, c.num_words_of.ensures.words) in
    let some = alive_of-bits n bytes size (sym c.if-not-has_zero_tail.ensures) in (
      λ is. absurd (not_damaged c.from_residual.result c.from_residual.ensures.0 c.from_residual.ensures.1 is),
      λ none. absurd (some_flags n bytes (take n (byte_bits bytes)) some none),
    )

pub from_words-requires : goal.from_words-requires
from_words-requires c =
    let n = c.args.num_docs in
    let bits = c.in_ok-words.ensures.bits in
    record {
      size = omega (arith, c.in_ok-words.ensures.size, c.if-bytes-num_words_of.false, c.num_words_of.ensures.words);
      unused = ap (λ (l : List Bool). list_all not (drop n l)) bits ∙ sym c.if-not-has_zero_tail.ensures;
    }

pub returns-in_err-alive-clause-damaged : goal.returns-in_err-alive-clause-damaged
returns-in_err-alive-clause-damaged c =
    let n = c.args.num_docs in
    let bytes = c.args.bytes.now in
    let size : length bytes ≡ 8 * num_words n = omega (arith, c.if-bytes-num_words_of.false, c.num_words_of.ensures.words) in
    let some = alive_of-bits n bytes size (sym c.if-not-has_zero_tail.ensures) in (
      λ is. absurd (not_damaged c.from_residual-in_err-alive.result c.from_residual-in_err-alive.ensures.0 c.from_residual-in_err-alive.ensures.1 is),
      λ none. absurd (some_flags n bytes (take n (byte_bits bytes)) some none),
    )

pub returns-clause-ok : goal.returns-clause-ok
returns-clause-ok c =
    let n = c.args.num_docs in
    let bytes = c.args.bytes.now in
    let size : length bytes ≡ 8 * num_words n = omega (arith, c.if-bytes-num_words_of.false, c.num_words_of.ensures.words) in
    let flags : take n (byte_bits bytes) ≡ c.in_ok-alive.alive = sym (c.in_ok-alive.ensures ∙ ap (take n) c.in_ok-words.ensures.bits) in
    alive_of-bits n bytes size (sym c.if-not-has_zero_tail.ensures) ∙ ap (λ (l : List Bool). Some l) flags

pub returns-clause-damaged : goal.returns-clause-damaged
returns-clause-damaged c =
    let n = c.args.num_docs in
    let bytes = c.args.bytes.now in
    let size : length bytes ≡ 8 * num_words n = omega (arith, c.if-bytes-num_words_of.false, c.num_words_of.ensures.words) in
    let some = alive_of-bits n bytes size (sym c.if-not-has_zero_tail.ensures) in
    (λ is. absurd (cc), λ none. absurd (some_flags n bytes (take n (byte_bits bytes)) some none))
