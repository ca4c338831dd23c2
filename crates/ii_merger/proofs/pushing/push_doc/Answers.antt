use Rattle.std.proofs.Common.{◌≡◌, ◌∙◌, ◌+◌, ℕ, true, sym, ap, arith}
use Rattle.ii_alive.specs.Alive.{rank}
use Rattle.ii_docset.specs.Cursor.{doc_at}
use Rattle.ii_segments.specs.Segments.{is_living}
use Rattle.ii_merger.proofs.DocLemmas.{damage_first, fault_doc, first_living, may_push_doc, merges_doc}
use Rattle.ii_merger.proofs.pushing.push_doc.Goals as goal

pub push_entry-requires-clause-may : goal.push_entry-requires-clause-may
push_entry-requires-clause-may g c =
    let here = c.doc-doc.ensures.doc in
    let living : is_living c.args.alive.now (doc_at c.args.postings.now.rest) ≡ true = ap (is_living c.args.alive.now) (sym here) ∙ sym c.is_alive.ensures ∙ c.if-not-is_alive.false in
    may_push_doc c.args.term.key.now c.args.term.kind c.args.begun c.args.serializer.now.index.now c.begin_term.new.serializer.index.now c.args.alive.now c.args.base (doc_at c.args.postings.now.rest) (c.args.base + c.rank.result)
    c.requires.may c.in_default.ensures.begun c.in_default.ensures.started living (ap (λ (n : ℕ). c.args.base + n) (c.rank.ensures ∙ ap (rank c.args.alive.now) here)) c.requires.numbered c.requires.covered

pub returns-in-Ok-clause-merges : goal.returns-in-Ok-clause-merges
returns-in-Ok-clause-merges g c old es start merges =
    let here = c.doc-doc.ensures.doc in
    let living : is_living c.args.alive.now (doc_at c.args.postings.now.rest) ≡ true = ap (is_living c.args.alive.now) (sym here) ∙ sym c.is_alive.ensures ∙ c.if-not-is_alive.false in
    let number = c.args.base + c.rank.result in
    let own = first_living c.args.base c.args.alive.now number c.args.postings.now.rest c.requires.current living (ap (λ (n : ℕ). c.args.base + n) (c.rank.ensures ∙ ap (rank c.args.alive.now) here)) in
    merges_doc c.args.term.key.now c.args.term.kind old c.args.begun c.args.serializer.now.index.now c.begin_term.new.serializer.index.now c.push_entry.new.serializer.index.now es _ number c.args.postings.now.rest
    merges c.in_default.ensures.begun c.in_default.ensures.started own c.requires.current c.in-Ok.ensures.pushes.ok

pub returns-in-Err-push_entry-clause-fault : goal.returns-in-Err-push_entry-clause-fault
returns-in-Err-push_entry-clause-fault g c old es start merges =
    let here = c.doc-doc.ensures.doc in
    let living : is_living c.args.alive.now (doc_at c.args.postings.now.rest) ≡ true = ap (is_living c.args.alive.now) (sym here) ∙ sym c.is_alive.ensures ∙ c.if-not-is_alive.false in
    let number = c.args.base + c.rank.result in
    let own = first_living c.args.base c.args.alive.now number c.args.postings.now.rest c.requires.current living (ap (λ (n : ℕ). c.args.base + n) (c.rank.ensures ∙ ap (rank c.args.alive.now) here)) in
    let damage = damage_first c.args.term.kind c.args.alive.now c.args.postings.now.rest c.requires.current (omega (arith, here, c.num_docs.ensures, c.if-doc-num_docs.false)) living in
    fault_doc c.args.term.key.now c.args.term.kind old c.args.begun c.args.serializer.now.index.now c.begin_term.new.serializer.index.now c.push_entry.new.serializer.index.now es _ number c.args.postings.now.rest _ _ c.in-Err-push_entry.fault
    merges c.in_default.ensures.begun c.in_default.ensures.started own damage c.in-Err-push_entry.ensures.pushes.err
