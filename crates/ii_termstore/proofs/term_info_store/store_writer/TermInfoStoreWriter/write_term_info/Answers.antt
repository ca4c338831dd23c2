use Rattle.std.proofs.Common.{◌≡◌, false, Result, refl, arith}
use Rattle.std.specs.Result.{IsErrOf, is_err}
use Rattle.ii_io.specs.declared.faults.Fault.{Fault}
use Rattle.ii_io.proofs.WriteSteps.{on_ok_went}
use Rattle.ii_termstore.proofs.GatherLemmas.{sound_more}
use Rattle.ii_termstore.proofs.term_info_store.store_writer.TermInfoStoreWriter.write_term_info.Goals as goal

no_fault : {e : Fault} (result : Result (Unit {0}) Fault) → false ≡ is_err result → IsErrOf result e → ⊥
no_fault result went is = let fine = rw is at went in absurd (cc)

pub invariant_of-self-2 : goal.invariant_of-self-2
invariant_of-self-2 c = λ is_open.
    let before = c.self.invariant is_open in
    let joined = rw (← c.self.view_is) at c.requires.joined in
    let lengths = rw (← c.self.view_is) at c.requires.lengths in
    let range = on_ok_went c.add_term-added.result c.if-is_err.ensures.value c.add_term-added.ensures.range in
    let gathered = on_ok_went c.add_term-added.result c.if-is_err.ensures.value (c.add_term-added.ensures.gathered c.self.inside.given.infos before.0) in
    rw c.and-self-inside.ensures (gathered, sound_more c.self.inside.given.infos c.args.term_info.now before.1 (lengths is_open) range (joined is_open))

pub returns-clause-ok : goal.returns-clause-ok
returns-clause-ok c = rw (← c.self.view_is, c.and-self-inside.ensures) refl

pub returns-clause-limit : goal.returns-clause-limit
returns-clause-limit c =
    let before = c.self.invariant c.if-self.false in
    let count = before.0.count in
    let limit = c.add_term-added.ensures.limit in
    rw (← c.self.view_is) (λ is. absurd (cc), λ full. absurd (no_fault c.add_term-added.result c.if-is_err.ensures.value (limit.1 (omega (arith, count, full.1)))))

pub returns-then-is_err-clause-limit : goal.returns-then-is_err-clause-limit
returns-then-is_err-clause-limit c =
    let before = c.self.invariant c.if-self.false in
    let count = before.0.count in
    let limit = c.add_term-added.ensures.limit in
    rw (← c.self.view_is) (λ is. (c.if-self.false, let full = limit.0 is in omega (arith, count, full)), λ full. limit.1 (omega (arith, count, full.1)))
