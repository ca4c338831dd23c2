use Rattle.std.proofs.Common.{◌≡◌, ◌∙◌, ◌+◌, ◌==◌, ◌&&◌, ◌∷◌, ap, bytes_eq, drop, map, sym, true}
use Rattle.std.specs.List.{list_any}
use Rattle.std.proofs.lemmas.List.{drop_more}
use Rattle.ii_warmup.specs.QueryTerms.{QueryTermState, term_view}
use Rattle.ii_warmup.specs.declared.terms.QueryTerm.{QueryTerm}
use Rattle.ii_warmup.proofs.KeyLemmas.{is_true, one_more_key, sorted_items}
use Rattle.ii_warmup.proofs.looked_up_terms.keys_of_field.Goals as goal

pub loop-term-preserved : goal.loop-term-preserved
loop-term-preserved c =
    let l = c.loop-term in
    let terms = c.args.terms.now in
    let t = c.term-item.result in
    let here = drop_more terms l.term-index t c.loop-term-test.true ∙ ap (λ (y : QueryTerm). y ∷ drop (l.term-index + 1) terms) (sym c.term-item.is) in
    let same : (t.term.now.field == c.args.field) ≡ true = is_true (t.term.now.field == c.args.field) (rw c.field.ensures at c.if-ne.ensures) in
    let value = c.in_ok-extend_from_slice.ensures.items ∙ (rw c.new-key.ensures.items c.serialized_value_bytes.ensures) in
    record {
      sorted = c.insert.ensures.ordered;
      has = λ key total.
          one_more_key l.keys.keys c.insert.new.self.keys c.extend_from_slice.new.self t.term.now.value key
          (list_any (λ (u : QueryTermState). (u.term.field == c.args.field) && bytes_eq u.term.value key) (map term_view (drop (l.term-index + 1) terms))) c.in_ok-insert.ensures.keys value (rw (here, same) at (l.invariant.has key total));
    }

pub returns-clause-sorted : goal.returns-clause-sorted
returns-clause-sorted c = sorted_items c.loop-term.keys.keys c.loop-term.invariant.sorted
