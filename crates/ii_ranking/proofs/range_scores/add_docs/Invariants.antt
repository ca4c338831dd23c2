use Rattle.std.proofs.Common.{ℕ, Option, ◌≡◌, length}
use Rattle.std.specs.Option.{option_map}
use Rattle.ii_base.specs.Entries.{Entry}
use Rattle.ii_bm25.specs.declared.bm25.TheConstants.{SCORE_ONE}
use Rattle.ii_docset.specs.Cursor.{IsSound, doc_at}
use Rattle.ii_ranking.proofs.EntryLemmas.{IsAdding}
use Rattle.ii_ranking.proofs.range_scores.add_docs.Given as goal

abbrev pub decreases-loop-doc : goal.decreases-loop-doc
decreases-loop-doc g l = length (g.D.DocSet.rest l.cursor)

abbrev pub invariant-loop-doc : goal.invariant-loop-doc
invariant-loop-doc g l = record {
  doc_is : l.doc ≡ doc_at (g.D.DocSet.rest l.cursor);
  sound : IsSound (g.D.DocSet.rest l.cursor);
  adding : IsAdding (λ (doc : ℕ) (found : Option Entry). option_map (λ (e : Entry). SCORE_ONE) found) (g.D.DocSet.rest l.initial.cursor) (g.D.DocSet.rest l.cursor) l.initial.scores.items l.scores.items;
}
