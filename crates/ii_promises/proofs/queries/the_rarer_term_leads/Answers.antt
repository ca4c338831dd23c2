use Rattle.std.proofs.Common.{rules}
use Rattle.ii_promises.proofs.HintLaws.{Joined, rarer_first, rarer_hint}
use Rattle.ii_promises.proofs.queries.the_rarer_term_leads.Goals as goal

joined : (c : goal.After-intersection) → Joined c.one.result c.one-2.result c.push-2.new.self.items c.args.first.doc_freq c.args.other.doc_freq
joined c = record {
  are = search rules;
  first = record { cursor = c.args.first; one = c.one.ensures.cursors; hint = c.one.ensures.hint };
  other = record { cursor = c.args.other; one = c.one-2.ensures.cursors; hint = c.one-2.ensures.hint };
  first_hint = c.one.ensures.hint;
  other_hint = c.one-2.ensures.hint;
}

pub returns-clause-hint : goal.returns-clause-hint
returns-clause-hint c = rarer_hint c.one.result c.one-2.result c.push-2.new.self.items c.args.first.doc_freq c.args.other.doc_freq c.intersection.result (joined c) c.intersection.ensures.work

pub returns-clause-leader : goal.returns-clause-leader
returns-clause-leader c = rarer_first c.one.result c.one-2.result c.push-2.new.self.items c.args.first.doc_freq c.args.other.doc_freq c.intersection.result (joined c) c.intersection.ensures.work
