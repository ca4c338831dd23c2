use Rattle.std.proofs.Common.{rules, refl, sym, ap, ◌∙◌, append_assoc, arith, drop}
use Rattle.std.proofs.lemmas.List.{append-nil}
use Rattle.ii_docset.proofs.CursorLemmas.{length_step}
use Rattle.iiq.proofs.OutputLemmas.{list_text_first, list_text_none, more_items_next, more_items_none, below_end}
use Rattle.iiq.proofs.output.push_list.Goals as goal

pub returns-then-first-eq-TERMINATED : goal.returns-then-first-eq-TERMINATED
returns-then-first-eq-TERMINATED c =
    let none = list_text_none c.args.option c.args.cursor.now.rest c.doc-first.ensures.sound.ascending (sym c.doc-first.ensures.doc ∙ c.if-first-eq-TERMINATED.true) in
    rw none (search rules)

pub push_item-requires : goal.push_item-requires
push_item-requires c = below_end c.args.cursor.now.rest c.doc-first.result c.doc-first.ensures.sound.ascending c.doc-first.ensures.doc c.if-first-eq-TERMINATED.false

pub loop-doc-init : goal.loop-doc-init
loop-doc-init c =
    let below = below_end c.args.cursor.now.rest c.doc-first.result c.doc-first.ensures.sound.ascending c.doc-first.ensures.doc c.if-first-eq-TERMINATED.false in
    let first = list_text_first c.args.option c.args.cursor.now.rest below in
    record { here = c.advance-doc.ensures.doc; ascending = c.advance-doc.ensures.sound.ascending; written = rw (first, c.advance-doc.ensures.rest, c.push_item.ensures.rest, c.in_ok-push_item.ensures.item, append_assoc) refl }

pub push_item-requires-in-loop-doc : goal.push_item-requires-in-loop-doc
push_item-requires-in-loop-doc c =
    let known = c.loop-doc.invariant in
    below_end c.loop-doc.cursor.rest c.loop-doc.doc known.ascending known.here c.loop-doc-test.true

pub loop-doc-preserved : goal.loop-doc-preserved
unfolding lib.Utf8.encode
loop-doc-preserved c =
    let known = c.loop-doc.invariant in
    let below = below_end c.loop-doc.cursor.rest c.loop-doc.doc known.ascending known.here c.loop-doc-test.true in
    let next = more_items_next c.args.option c.loop-doc.cursor.rest below in
    record { here = c.advance-doc-in-loop-doc.ensures.doc; ascending = c.advance-doc-in-loop-doc.ensures.sound.ascending; written = rw (← known.written, next, c.advance-doc-in-loop-doc.ensures.rest, c.push_item-in-loop-doc.ensures.rest, c.in_ok-push_item-2.ensures.item, c.in_ok-push.ensures.bytes, append_assoc, append_assoc) refl }

pub loop-doc-smaller : goal.loop-doc-smaller
loop-doc-smaller c =
    let known = c.loop-doc.invariant in
    let below = below_end c.loop-doc.cursor.rest c.loop-doc.doc known.ascending known.here c.loop-doc-test.true in
    let left = c.advance-doc-in-loop-doc.ensures.rest ∙ ap (drop 1) c.push_item-in-loop-doc.ensures.rest in
    rw left (omega (arith, length_step c.loop-doc.cursor.rest below))

pub returns : goal.returns
returns c =
    let known = c.loop-doc.invariant in
    let none = more_items_none c.args.option c.loop-doc.cursor.rest known.ascending (sym known.here ∙ c.loop-doc-test.false) in
    rw (← known.written, none, append-nil) refl
