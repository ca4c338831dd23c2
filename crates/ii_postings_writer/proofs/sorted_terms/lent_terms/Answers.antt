use Rattle.std.proofs.Common.{ap, map, refl, subst, sym}
use Rattle.std.specs.List.{AllByRecursion}
use Rattle.ii_postings_writer.specs.SortedTerms.{kept_state}
use Rattle.ii_postings_writer.specs.SortKeys.{IsKept}
use Rattle.ii_postings_writer.proofs.ByFieldLemmas.{lent_more}
use Rattle.ii_postings_writer.proofs.SortKeyLemmas.{one_more_kept, term_long}
use Rattle.ii_postings_writer.proofs.sorted_terms.lent_terms.Goals as goal

pub loop-place-init : goal.loop-place-init
loop-place-init c = (ap (map kept_state) c.in_ok-terms.ensures.items, subst (AllByRecursion (IsKept c.args.flags.now c.args.ranks.now)) (sym c.in_ok-terms.ensures.items) tt)

pub kept-requires : goal.kept-requires
kept-requires c = record { long = term_long c.args.recorders.now.entries c.loop-place.place (c.in-Some.term.now, c.in-Some.recorder.now) c.in-Some.term.now c.requires.terms (sym c.in-Some.ensures.entry) refl }

pub loop-place-preserved : goal.loop-place-preserved
loop-place-preserved c = (
  lent_more c.args.recorders.now.entries c.loop-place.place (c.in-Some.term.now, c.in-Some.recorder.now) c.loop-place.terms.items c.push.new.self.items _ (sym c.in-Some.ensures.entry) c.loop-place.invariant.0 c.in_ok-push.ensures.items c.kept.ensures.same,
  one_more_kept (IsKept c.args.flags.now c.args.ranks.now) c.loop-place.terms.items c.push.new.self.items c.kept.result c.loop-place.invariant.1 c.kept.ensures.kept c.in_ok-push.ensures.items,
)

pub returns-clause-kept : goal.returns-clause-kept
returns-clause-kept c = c.loop-place.invariant.1
