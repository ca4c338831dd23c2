use Rattle.std.proofs.Common.{◌≡◌, ◌*◌, Bool, List, ℕ, arith, refl, length, ap, sym, subst, ◌∙◌, inl, inr}
use Rattle.std.specs.List.{flat_map}
use Rattle.ii_io.specs.CountingWriter.{IsFull, Writes}
use Rattle.ii_io.specs.Numbers.{le_bytes}
use Rattle.ii_io.proofs.WriteSteps.{writes_limit}
use Rattle.ii_alive.specs.AliveBytes.{alive_bytes, num_words}
use Rattle.ii_alive.proofs.StateLemmas.{bytes_of_words, size_of_bytes}
use Rattle.ii_alive.proofs.alive_bits.AliveBits.write.Goals as goal

pub overflow_mul-size : goal.overflow_mul-size
overflow_mul-size g c = omega (arith, c.num_words_of.ensures.few)

pub returns-then-written_bytes-size-clause-written : goal.returns-then-written_bytes-size-clause-written
returns-then-written_bytes-size-clause-written g c =
    let s = c.self.inside in
    let size : length (alive_bytes c.args.self.now) ≡ 8 * num_words s.num_docs = ap (λ (v : List Bool). length (alive_bytes v)) (sym c.self.view_is) ∙ size_of_bytes s.num_docs s.words.items c.self.invariant.flags in
    writes_limit c.args.writer.now (alive_bytes c.args.self.now) (inl (omega (arith, size, c.if-written_bytes-size.true, c.num_words_of.ensures.words, c.written_bytes.ensures)))

pub returns-then-written_bytes-size-clause-limit : goal.returns-then-written_bytes-size-clause-limit
returns-then-written_bytes-size-clause-limit g c =
    let s = c.self.inside in
    let size : length (alive_bytes c.args.self.now) ≡ 8 * num_words s.num_docs = ap (λ (v : List Bool). length (alive_bytes v)) (sym c.self.view_is) ∙ size_of_bytes s.num_docs s.words.items c.self.invariant.flags in
    (λ _. inl (omega (arith, size, c.if-written_bytes-size.true, c.num_words_of.ensures.words, c.written_bytes.ensures)), λ _. refl)

pub returns-clause-written : goal.returns-clause-written
returns-clause-written g c =
    let s = c.self.inside in
    subst (λ (bytes : List ℕ). Writes c.args.writer.now c.write_words.new.writer bytes c.write_words.result)
    (ap (flat_map (le_bytes 8)) c.deref.ensures.value ∙ bytes_of_words s.num_docs s.words.items c.self.invariant.flags ∙ ap alive_bytes c.self.view_is) c.write_words.ensures

pub returns-clause-limit : goal.returns-clause-limit
returns-clause-limit g c =
    let s = c.self.inside in
    let size : length (alive_bytes c.args.self.now) ≡ 8 * num_words s.num_docs = ap (λ (v : List Bool). length (alive_bytes v)) (sym c.self.view_is) ∙ size_of_bytes s.num_docs s.words.items c.self.invariant.flags in
    let bytes : flat_map (le_bytes 8) c.deref.result.now ≡ alive_bytes c.args.self.now =
    ap (flat_map (le_bytes 8)) c.deref.ensures.value ∙ bytes_of_words s.num_docs s.words.items c.self.invariant.flags ∙ ap alive_bytes c.self.view_is in (
      λ is. subst (λ (written : List ℕ). IsFull c.args.writer.now (length written)) bytes (c.write_words.ensures.limit is),
      λ full. absurd (elim full [ inl long ↦ omega (arith, size, c.if-written_bytes-size.false, c.num_words_of.ensures.words, c.written_bytes.ensures) | inr most ↦ omega (arith, c.failed_calls.ensures) ]),
    )

pub returns-clause-full : goal.returns-clause-full
returns-clause-full g c =
    let s = c.self.inside in
    let size : length (alive_bytes c.args.self.now) ≡ 8 * num_words s.num_docs = ap (λ (v : List Bool). length (alive_bytes v)) (sym c.self.view_is) ∙ size_of_bytes s.num_docs s.words.items c.self.invariant.flags in
    λ full. absurd (elim full [ inl long ↦ omega (arith, size, c.if-written_bytes-size.false, c.num_words_of.ensures.words, c.written_bytes.ensures) | inr most ↦ omega (arith, c.failed_calls.ensures) ])
