use Rattle.std.proofs.Common.{◌≡◌, ◌∙◌, ◌∷◌, List, ℕ, true, drop, sym, ap}
use Rattle.std.specs.Prelude.{bytes_eq, Option}
use Rattle.std.specs.Borrow.{Bor}
use Rattle.std.proofs.lemmas.Cmp.{nat_list_eq_equiv}
use Rattle.ii_termstore.specs.declared.term_info.TermInfo.{TermInfo}
use Rattle.ii_termdict.specs.TermMerger.{behind_key}
use Rattle.ii_termdict.proofs.MergerLemmas.{behind_first, coming_next, coming_of, not_false}
use Rattle.ii_termdict.proofs.merger.ComingTerms.take.Goals as goal

pub returns-clause-rest : goal.returns-clause-rest
returns-clause-rest c =
    let es = c.self.inside.others.entries in
    let passed = c.self.inside.others.passed in
    let next = coming_next c.next-self-inside.result es passed c.next-self-inside.ensures.key c.next-self-inside.ensures.value in
    let same : bytes_eq c.args.key.now c.in-Some.first.now ≡ true = nat_list_eq_equiv.symm c.args.key.now c.in-Some.first.now ∙ not_false (bytes_eq c.in-Some.first.now c.args.key.now) (sym c.ne.ensures ∙ c.if-ne.false) in
    let here : c.args.self.now ≡ (c.in-Some.first.now, c.in-Some.info) ∷ drop passed es = sym c.self.view_is ∙ ap (λ (o : Option (Bor (List ℕ) × TermInfo)). coming_of o passed es) (sym c.take.ensures.value ∙ c.in-Some.is) in
    rw (c.next-self-inside.ensures.passed) (next ∙ sym (ap (behind_key c.args.key.now) here ∙ behind_first c.args.key.now (c.in-Some.first.now, c.in-Some.info) (drop passed es) same))
