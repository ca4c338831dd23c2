use Rattle.std.proofs.Common.{◌<◌, get_or, length, refl, rules}
use Rattle.nequllpa_searching.proofs.FindingLemmas.{placing_low, placing_next}
use Rattle.nequllpa_searching.proofs.finding.places_in.Goals as goal

pub positions_at-requires : goal.positions_at-requires
positions_at-requires g c =
    let l = c.loop-doc in
    let docs = c.args.docs.now in
    let inside : l.doc-index < length docs = search rules in
    placing_low (g.C.DocSet.rest c.args.cursor.now) (g.C.DocSet.rest l.cursor) docs l.doc-index (get_or docs l.doc-index 0) 0 l.places.items inside refl l.invariant

pub loop-doc-preserved : goal.loop-doc-preserved
loop-doc-preserved g c =
    let l = c.loop-doc in
    let docs = c.args.docs.now in
    let inside : l.doc-index < length docs = search rules in
    placing_next (g.C.DocSet.rest c.args.cursor.now) (g.C.DocSet.rest l.cursor) (g.C.DocSet.rest c.positions_at.new.cursor) docs l.doc-index (get_or docs l.doc-index 0) 0 l.places.items c.push.new.self.items c.in_ok-positions.positions inside refl
    c.positions_at.ensures.rest c.in_ok-positions.ensures.found c.in_ok-push.ensures.items l.invariant
