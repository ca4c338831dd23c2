use Rattle.std.proofs.Common.{◌∙◌, ◌++◌, ◌+◌, ◌-◌, ◌∷◌, [], ℕ, List, length, map, sym, ap, subst, ◌<◌}
use Rattle.std.specs.Prelude.{filter}
use Rattle.std.specs.List.{range_with_len}
use Rattle.ii_fieldnorm.specs.Readers.{id_of_doc}
use Rattle.ii_segments.specs.Segments.{is_living, living_docs}
use Rattle.ii_merger.proofs.NormLemmas.{next_dead, next_living}
use Rattle.ii_merger.proofs.norms.push_living_ids.Goals as goal
use Rattle.ii_merger.proofs.norms.push_living_ids.Goals.{then-is_alive+in_ok-push, else-is_alive}

pub loop-doc-preserved : goal.loop-doc-preserved
loop-doc-preserved c =
    let alive = c.args.alive.now in
    let f = id_of_doc c.args.norms.now in
    let doc = c.loop-doc.doc in
    let all = c.args.ids.now.items ++ map f (living_docs alive) in
    let n = length alive in
    let low = subst (λ (k : ℕ). doc < k) c.num_docs-doc-end.ensures c.loop-doc-test.true in
    elim c.if-is_alive.branch [
      | then-is_alive+in_ok-push w ↦
          ap (λ (xs : List ℕ). xs ++ map f (filter (is_living alive) (range_with_len (doc + 1) (n - (doc + 1))))) (ap (λ v. v.items) w.ids-is ∙ w.in_ok-push.ensures.items ∙ ap (λ (id : ℕ). c.loop-doc.ids.items ++ id ∷ []) w.fieldnorm_id.ensures)
          ∙ next_living alive f n doc low c.loop-doc.ids.items all c.loop-doc.invariant (sym c.is_alive.ensures ∙ w.if-is_alive.true)
      | else-is_alive w ↦
          ap (λ v. v.items ++ map f (filter (is_living alive) (range_with_len (doc + 1) (n - (doc + 1))))) w.ids-is
          ∙ next_dead alive f n doc low c.loop-doc.ids.items all c.loop-doc.invariant (sym c.is_alive.ensures ∙ w.if-is_alive.false)
    ]
