use Rattle.std.proofs.Common.{◌∙◌}
use Rattle.std.proofs.lemmas.List.{take_all}
use Rattle.ii_postings_writer.specs.SortedTerms.{kept_state}
use Rattle.ii_postings_writer.proofs.ByFieldLemmas.{added, got_at, kept_at, known_at, none_at_first}
use Rattle.ii_postings_writer.proofs.sorted_terms.by_field.Goals as goal

pub loop-place-init : goal.loop-place-init
loop-place-init c = c.in_ok-fields.ensures.ok ∙ none_at_first 0 c.args.num_fields

pub add_term-requires-clause-long : goal.add_term-requires-clause-long
add_term-requires-clause-long c =
    (kept_at kept_state c.args.num_fields c.args.terms.now c.loop-place.place c.index-terms-place.result c.requires.known (got_at c.args.terms.now c.loop-place.place c.index-terms-place.result c.loop-place-test.true c.index-terms-place.is)).long

pub add_term-requires-clause-known : goal.add_term-requires-clause-known
add_term-requires-clause-known c =
    known_at c.args.num_fields (kept_state c.index-terms-place.result) _ c.loop-place.fields.items
    (kept_at kept_state c.args.num_fields c.args.terms.now c.loop-place.place c.index-terms-place.result c.requires.known (got_at c.args.terms.now c.loop-place.place c.index-terms-place.result c.loop-place-test.true c.index-terms-place.is)) c.loop-place.invariant

pub loop-place-preserved : goal.loop-place-preserved
loop-place-preserved c =
    added kept_state c.args.flags.now c.args.paths.now c.args.num_fields c.args.terms.now c.loop-place.place c.index-terms-place.result c.loop-place.fields.items c.add_term.new.fields.items
    (got_at c.args.terms.now c.loop-place.place c.index-terms-place.result c.loop-place-test.true c.index-terms-place.is) c.requires.known c.loop-place.invariant c.in_ok-add_term.ensures.ok

pub returns-clause-ok : goal.returns-clause-ok
returns-clause-ok c = rw (take_all c.loop-place.place c.args.terms.now c.loop-place-test.false) at c.loop-place.invariant
