use Rattle.std.proofs.Common.{◌≡◌, length}
use Rattle.ii_docset.specs.Cursor.{doc_at, IsSound}
use Rattle.ii_merger.proofs.ListingLemmas.{IsListing}
use Rattle.ii_merger.proofs.pushing.push_list.Given as goal

abbrev pub invariant-loop-doc : goal.invariant-loop-doc
invariant-loop-doc g l = record {
  here : l.doc ≡ doc_at l.postings.rest;
  sound : IsSound l.postings.rest;
  same : l.serializer.index.ghost_name ≡ l.fn.serializer.index.ghost_name;
  listing : IsListing l.term.key.now l.term.kind l.alive l.base l.fn.begun l.fn.serializer.index.now l.fn.postings.rest l.postings.rest l.begun l.serializer.index.now;
}

abbrev pub decreases-loop-doc : goal.decreases-loop-doc
decreases-loop-doc g l = length l.postings.rest
