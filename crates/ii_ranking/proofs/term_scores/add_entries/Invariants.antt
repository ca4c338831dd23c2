use Rattle.std.proofs.Common.{ℕ, List, Option, ◌≡◌, length}
use Rattle.std.specs.Option.{option_map}
use Rattle.ii_base.specs.Entries.{Entry}
use Rattle.ii_docset.specs.Cursor.{IsSound, doc_at}
use Rattle.ii_fieldnorm.specs.Readers.{norms_of_ids}
use Rattle.ii_bm25.specs.Bm25.{bm25_score}
use Rattle.ii_ranking.specs.Scores.{norm_id_in}
use Rattle.ii_ranking.proofs.EntryLemmas.{IsAdding}
use Rattle.ii_ranking.proofs.term_scores.add_entries.Given as goal

abbrev pub decreases-loop-doc : goal.decreases-loop-doc
decreases-loop-doc l = length l.cursor.rest

abbrev pub invariant-loop-doc : goal.invariant-loop-doc
invariant-loop-doc l = record {
  doc_is : l.doc ≡ doc_at l.cursor.rest;
  sound : IsSound l.cursor.rest;
  adding : (ids : Option (List ℕ)) → l.norms ≡ option_map norms_of_ids ids
      → IsAdding (λ (doc : ℕ) (found : Option Entry). option_map (λ (e : Entry). bm25_score l.weight (norm_id_in ids doc) e.term_freq) found) l.initial.cursor.rest l.cursor.rest l.initial.scores.items l.scores.items;
}
