use Rattle.std.proofs.Common.{◌∙◌, ◌++◌, ◌+◌, ◌-◌, ◌∷◌, [], ℕ, List, length, map, sym, ap, subst, ◌<◌}
use Rattle.std.specs.Prelude.{filter, slice_index}
use Rattle.std.specs.List.{range_with_len}
use Rattle.ii_segments.specs.Segments.{is_living, living_docs}
use Rattle.ii_counts_merger.proofs.RowLemmas.{next_dead, next_living}
use Rattle.ii_counts_merger.proofs.rows.push_living.Goals as goal
use Rattle.ii_counts_merger.proofs.rows.push_living.Goals.{then-is_alive+in_ok-push, else-is_alive}

pub loop-doc-preserved : goal.loop-doc-preserved
loop-doc-preserved c =
    let alive = c.args.alive.now in
    let f : ℕ → ℕ = slice_index c.args.counts.now.counts in
    let doc = c.loop-doc.doc in
    let all = c.args.row.now.items ++ map f (living_docs alive) in
    let n = length alive in
    let later = map f (filter (is_living alive) (range_with_len (doc + 1) (n - (doc + 1)))) in
    let low = subst (λ (k : ℕ). doc < k) c.num_docs-doc-end.ensures c.loop-doc-test.true in
    let h = c.loop-doc.invariant in
    elim c.if-is_alive.branch [
      | then-is_alive+in_ok-push w ↦ record {
        added = ap (λ (xs : List ℕ). xs ++ later) (ap (λ v. v.items) w.row-is ∙ w.in_ok-push.ensures.items ∙ ap (λ (k : ℕ). c.loop-doc.row.items ++ k ∷ []) (w.count.ensures.count ∙ ap (λ (xs : List ℕ). slice_index xs doc) h.same))
            ∙ next_living alive f n doc low c.loop-doc.row.items all h.added (sym c.is_alive.ensures ∙ w.if-is_alive.true);
        same = ap (λ r. r.counts) w.counts-is ∙ w.count.ensures.same ∙ h.same;
      }
      | else-is_alive w ↦ record {
        added = ap (λ v. v.items ++ later) w.row-is ∙ next_dead alive f n doc low c.loop-doc.row.items all h.added (sym c.is_alive.ensures ∙ w.if-is_alive.false);
        same = ap (λ r. r.counts) w.counts-is ∙ h.same;
      }
    ]
