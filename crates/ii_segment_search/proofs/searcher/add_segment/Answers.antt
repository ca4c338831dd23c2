use Rattle.std.proofs.Common.{◌≡◌, ◌∙◌, ◌+◌, ◌++◌, ℕ, List, Bool, Ok, append-nil, ap, filter, length, map, subst, sym}
use Rattle.std.specs.List.{flat_map}
use Rattle.std.proofs.lemmas.List.Concat.{flat_map-append}
use Rattle.ii_docset.specs.Cursor.{IsSound}
use Rattle.ii_alive.specs.Alive.{rank}
use Rattle.ii_query_parser.specs.Queries.{matches}
use Rattle.ii_reader.specs.OpenIndex.{IndexHolds, OpenIndexState}
use Rattle.ii_search.specs.Found.{found_in}
use Rattle.ii_segments.specs.Segments.{living_docs, living_entries}
use Rattle.ii_living_docs.proofs.FoundLemmas.{living_found}
use Rattle.ii_segment_search.specs.Searcher.{OpenSegmentState, living_rest}
use Rattle.ii_segment_search.proofs.searcher.add_segment.Goals as goal

pub returns-in-Err-clause-memory : goal.returns-in-Err-clause-memory
returns-in-Err-clause-memory c entries s holds ask =
    let index = ap (λ (o : OpenSegmentState). o.index) c.segment.view_is in
    c.in-Err.ensures.holds entries (length s.alive) s.tokens (subst (λ (i : OpenIndexState). IndexHolds entries (length s.alive) i s.tokens) (sym index) holds.index) ask.fields ask.positions

pub returns-clause-found : goal.returns-clause-found
returns-clause-found c =
    let es = c.in-Ok.found.rest in
    let base = c.args.base in
    let alive = c.args.segment.now.alive in
    let query = c.args.query.now in
    let index = ap (λ (o : OpenSegmentState). o.index) c.segment.view_is in
    let flags = ap (λ (o : OpenSegmentState). o.alive) c.segment.view_is in
    let living = c.new-living.ensures.rest ∙ ap (λ (a : List Bool). living_entries base a es) flags in
    record {
      es = es;
      found = subst (λ (i : OpenIndexState). found_in i query ≡ Ok es) index c.in-Ok.ensures.listed;
      sound = subst IsSound living c.doc-first.ensures.sound;
      rest = ap (flat_map living_rest) c.in_ok-push.ensures.items ∙ flat_map-append living_rest c.args.cursors.now.items _ ∙ ap (λ l. flat_map living_rest c.args.cursors.now.items ++ l) (append-nil (living_rest c.new-living.result) ∙ living);
      holds = λ entries s holds ask.
          let m = c.in-Ok.ensures.holds entries (length s.alive) s.tokens (subst (λ (i : OpenIndexState). IndexHolds entries (length s.alive) i s.tokens) (sym index) holds.index) ask.fields ask.positions in
          living_found base alive (matches query s.tokens) es m.ascending m.exact ∙ ap (λ (a : List Bool). map (λ (doc : ℕ). base + rank a doc) (filter (matches query s.tokens) (living_docs a))) holds.alive;
    }
