use Rattle.std.proofs.Common.{ℕ, List, Option, ◌≡◌, length}
use Rattle.std.specs.List.{AllByRecursion}
use Rattle.std.specs.Option.{option_map}
use Rattle.ii_base.specs.Entries.{Entry}
use Rattle.ii_docset.specs.Cursor.{IsCurrent, IsSound, doc_at}
use Rattle.ii_fieldnorm.specs.Readers.{norms_of_ids}
use Rattle.ii_bm25.specs.Bm25.{bm25_score}
use Rattle.ii_query.specs.Phrase.{IsUnread, IsUnreadFrom, parts_in}
use Rattle.ii_ranking.specs.Scores.{norm_id_in}
use Rattle.ii_ranking.proofs.EntryLemmas.{IsAdding}
use Rattle.ii_ranking.proofs.PhraseScoreLemmas.{HaveMoved, starts_score}
use Rattle.ii_ranking.proofs.phrase_scores.add_starts.Given as goal

abbrev pub decreases-loop-doc : goal.decreases-loop-doc
decreases-loop-doc l = length l.first.part.rest

abbrev pub invariant-loop-doc : goal.invariant-loop-doc
invariant-loop-doc l = record {
  doc_is : l.doc ≡ doc_at l.first.part.rest;
  sound : IsSound l.first.part.rest;
  first_unread : IsUnread l.first;
  others_unread : IsCurrent l.first.part.rest → AllByRecursion (IsUnreadFrom (doc_at l.first.part.rest)) l.others.items;
  moved : HaveMoved l.doc (parts_in l.initial.others.items) (parts_in l.others.items);
  adding : (ids : Option (List ℕ)) → l.norms ≡ option_map norms_of_ids ids
      → IsAdding (λ (doc : ℕ) (found : Option Entry). starts_score l.slop (bm25_score l.weight (norm_id_in ids doc)) (parts_in l.initial.others.items) found) l.initial.first.part.rest l.first.part.rest l.initial.scores.items l.scores.items;
}
