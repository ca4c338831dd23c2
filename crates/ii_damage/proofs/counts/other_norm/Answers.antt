use Rattle.std.proofs.Common.{◌<◌, rules}
use Rattle.ii_damage.proofs.NormLemmas.{found_here, none_next}
use Rattle.ii_damage.proofs.counts.other_norm.Goals as goal

pub returns-then-ids-doc-clause-found : goal.returns-then-ids-doc-clause-found
returns-then-ids-doc-clause-found c =
    let low : c.loop-doc.doc < c.args.num_docs = search rules in
    found_here c.args.num_docs c.args.ids.now c.args.counts.now c.loop-doc.doc 0 c.fieldnorm_to_id.result low c.fieldnorm_to_id.ensures.id c.if-ids-doc.true c.loop-doc.invariant

pub loop-doc-preserved : goal.loop-doc-preserved
loop-doc-preserved c =
    let low : c.loop-doc.doc < c.args.num_docs = search rules in
    none_next c.args.num_docs c.args.ids.now c.args.counts.now c.loop-doc.doc 0 c.fieldnorm_to_id.result low c.fieldnorm_to_id.ensures.id c.if-ids-doc.false c.loop-doc.invariant
