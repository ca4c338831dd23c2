use Rattle.ii_reader.proofs.LoadedLemmas.{at_current}
use Rattle.ii_reader.proofs.loaded_postings.LoadedPostings.current_positions.Goals as goal

pub slice_bounds-result-count : goal.slice_bounds-result-count
slice_bounds-result-count c =
    let l = c.self.inside in
    let here = at_current l.doc_ids.items l.position_offsets.items l.positions.items l.cursor c.index.result.now c.index-2.result.now c.self.invariant (rw (← c.self.view_is) at c.requires) c.index.ensures c.index-2.ensures in
    here.order

pub slice_bounds-result-start : goal.slice_bounds-result-start
slice_bounds-result-start c =
    let l = c.self.inside in
    let here = at_current l.doc_ids.items l.position_offsets.items l.positions.items l.cursor c.index.result.now c.index-2.result.now c.self.invariant (rw (← c.self.view_is) at c.requires) c.index.ensures c.index-2.ensures in
    here.order

pub slice_bounds-result-end : goal.slice_bounds-result-end
slice_bounds-result-end c =
    let l = c.self.inside in
    let here = at_current l.doc_ids.items l.position_offsets.items l.positions.items l.cursor c.index.result.now c.index-2.result.now c.self.invariant (rw (← c.self.view_is) at c.requires) c.index.ensures c.index-2.ensures in
    (rw (← c.deref.ensures.value) at here.within)

pub returns-clause-positions : goal.returns-clause-positions
returns-clause-positions c =
    let l = c.self.inside in
    let here = at_current l.doc_ids.items l.position_offsets.items l.positions.items l.cursor c.index.result.now c.index-2.result.now c.self.invariant (rw (← c.self.view_is) at c.requires) c.index.ensures c.index-2.ensures in
    rw (c.deref.ensures.value, ← c.self.view_is) here.positions_are

pub returns-clause-len : goal.returns-clause-len
returns-clause-len c =
    let l = c.self.inside in
    let here = at_current l.doc_ids.items l.position_offsets.items l.positions.items l.cursor c.index.result.now c.index-2.result.now c.self.invariant (rw (← c.self.view_is) at c.requires) c.index.ensures c.index-2.ensures in
    rw (c.deref.ensures.value, ← c.self.view_is) here.count
