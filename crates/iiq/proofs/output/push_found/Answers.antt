use Rattle.std.proofs.Common.{rules, refl, sym, ◌∙◌, append_assoc}
use Rattle.std.proofs.lemmas.List.{append-nil}
use Rattle.ii_base.specs.declared.schema.index_record_option.IndexRecordOption.TheVariants.{Basic}
use Rattle.iiq.proofs.OutputLemmas.{below_end, found_first, found_none, more_found, more_items_none}
use Rattle.iiq.proofs.output.push_found.Goals as goal

pub returns-then-first-eq-TERMINATED : goal.returns-then-first-eq-TERMINATED
returns-then-first-eq-TERMINATED g c =
    let none = found_none (g.D.DocSet.rest c.args.cursor.now) c.doc-first.ensures.sound.ascending (sym c.doc-first.ensures.doc ∙ c.if-first-eq-TERMINATED.true) in
    rw none (search rules)

pub loop-doc-init : goal.loop-doc-init
loop-doc-init g c =
    let below = below_end (g.D.DocSet.rest c.args.cursor.now) c.doc-first.result c.doc-first.ensures.sound.ascending c.doc-first.ensures.doc c.if-first-eq-TERMINATED.false in
    let first = found_first (g.D.DocSet.rest c.args.cursor.now) below in
    record { here = c.advance-doc.ensures.doc; ascending = c.advance-doc.ensures.sound.ascending; written = rw (first, c.advance-doc.ensures.rest, ← c.doc-first.ensures.doc, c.in_ok-write.ensures.bytes, append_assoc) refl }

pub loop-doc-preserved : goal.loop-doc-preserved
loop-doc-preserved g c =
    let known = c.loop-doc.invariant in
    let below = below_end (g.D.DocSet.rest c.loop-doc.cursor) c.loop-doc.doc known.ascending known.here c.loop-doc-test.true in
    let next = more_found (g.D.DocSet.rest c.loop-doc.cursor) below in
    record { here = c.advance-doc-in-loop-doc.ensures.doc; ascending = c.advance-doc-in-loop-doc.ensures.sound.ascending; written = rw (← known.written, next, c.advance-doc-in-loop-doc.ensures.rest, ← known.here, c.in_ok-write-2.ensures.bytes, append_assoc) refl }

pub returns : goal.returns
returns g c =
    let known = c.loop-doc.invariant in
    let none = more_items_none Basic (g.D.DocSet.rest c.loop-doc.cursor) known.ascending (sym known.here ∙ c.loop-doc-test.false) in
    rw (← known.written, none, append-nil) refl
