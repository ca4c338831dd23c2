use Rattle.std.proofs.Common.{◌≡◌, ℕ, length}
use Rattle.ii_docset.specs.Cursor.{doc_at, IsSound}
use Rattle.ii_reader.proofs.LoadedLemmas.{HasLoaded, IsLoading}
use Rattle.ii_reader.proofs.loaded_postings.LoadedPostings.load.Given as goal

abbrev pub invariant-loop-doc : goal.invariant-loop-doc
invariant-loop-doc g l = record {
  here : l.doc ≡ doc_at (g.P.DocSet.rest l.source);
  sound : IsSound (g.P.DocSet.rest l.source);
  loading : IsLoading (g.P.DocSet.rest l.fn.source) (g.P.DocSet.rest l.source) l.doc_ids.items l.position_offsets.items l.positions.items;
  kind : g.P.DocSet.always_one l.source ≡ g.P.DocSet.always_one l.fn.source;
  work : (asked : ℕ) × (counts : ℕ) × HasLoaded asked counts (g.P.DocSet.always_one l.fn.source) (g.P.DocSet.rest l.fn.source) (g.P.DocSet.rest l.source) × g.P.Postings.spent asked counts l.fn.source l.source;
}

abbrev pub decreases-loop-doc : goal.decreases-loop-doc
decreases-loop-doc g l = length (g.P.DocSet.rest l.source)
