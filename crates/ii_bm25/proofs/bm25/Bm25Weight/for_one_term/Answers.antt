use Rattle.std.proofs.Common.{◌≡◌, ℕ, subst}
use Rattle.std.specs.Prelude.{IfOk}
use Rattle.ii_bm25.specs.Bm25.{bm25_weight}
use Rattle.ii_bm25.proofs.bm25.Bm25Weight.for_one_term.Goals as goal

pub returns-clause-made : goal.returns-clause-made
returns-clause-made c = subst (λ (i : ℕ). IfOk c.new.result (λ w. w ≡ bm25_weight i c.args.total_num_docs c.args.total_num_tokens)) c.idf.ensures.value c.new.ensures.made
