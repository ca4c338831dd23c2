use Rattle.std.proofs.Common.{◌∙◌, Err, Ok, ap, arith}
use Rattle.std.specs.Option.{option_map}
use Rattle.nequllpa_opening.specs.Documents.{stored_segment}
use Rattle.nequllpa_opening.proofs.DocumentLemmas.{has_none, in_found, is_read, selected}
use Rattle.nequllpa_opening.proofs.documents.document_in.Goals as goal

pub returns-then-doc-num_docs : goal.returns-then-doc-num_docs
returns-then-doc-num_docs c =
    let r = c.in-Some.store.now in
    let doc = c.select-doc.result in
    let found = in_found c.args.place (stored_segment c.args.segment) c.args.number doc r (ap (option_map (λ b. b.now)) c.in-Some.is) (selected c.args.segment.alive.now c.args.number doc c.requires c.select-doc.ensures.alive c.select-doc.ensures.rank) in
    found ∙ has_none c.args.place doc r (omega (arith, c.if-doc-num_docs.true, c.num_docs.ensures.value))

pub returns-in-Ok : goal.returns-in-Ok
returns-in-Ok c =
    let r = c.in-Some.store.now in
    let doc = c.select-doc.result in
    let found = in_found c.args.place (stored_segment c.args.segment) c.args.number doc r (ap (option_map (λ b. b.now)) c.in-Some.is) (selected c.args.segment.alive.now c.args.number doc c.requires c.select-doc.ensures.alive c.select-doc.ensures.rank) in
    found ∙ is_read c.args.place doc r (Ok c.in-Ok.document.now) (omega (arith, c.if-doc-num_docs.false, c.num_docs.ensures.value)) c.in-Ok.ensures.value

pub returns-in-Err : goal.returns-in-Err
returns-in-Err c =
    let r = c.in-Some.store.now in
    let doc = c.select-doc.result in
    let found = in_found c.args.place (stored_segment c.args.segment) c.args.number doc r (ap (option_map (λ b. b.now)) c.in-Some.is) (selected c.args.segment.alive.now c.args.number doc c.requires c.select-doc.ensures.alive c.select-doc.ensures.rank) in
    found ∙ is_read c.args.place doc r (Err c.in-Err.damage) (omega (arith, c.if-doc-num_docs.false, c.num_docs.ensures.value)) c.in-Err.ensures.value
