use Rattle.std.proofs.Common.{rules, ◌<◌, ◌≤◌, None, length}
use Rattle.ii_reader.proofs.DamageLemmas.{checking_ends, checking_first, checking_next, checking_stops, open_exactly, passed_on}
use Rattle.ii_reader.proofs.inverted_index_reader.InvertedIndexReader.first_damaged_term.Goals as goal

pub returns-in-Err-Damaged-clause-found : goal.returns-in-Err-Damaged-clause-found
returns-in-Err-Damaged-clause-found c =
    let l = c.loop-ord in
    let low : l.ord < length c.args.self.now.terms = search rules in
    let now = passed_on c.args.self.now l.terms c.advance.new.self c.advance.result l.ord low l.invariant c.advance.ensures.found c.advance.ensures.passed in
    rw c.in-Err-Damaged.part-is
    (checking_stops c.args.self.now c.record_option-option.result l.terms c.advance.new.self l.ord c.value.result c.in-Err-Damaged.field-0 _ c.record_option-option.ensures l.invariant now c.value.ensures c.in-Err-Damaged.field-0-is c.in-Err-Damaged.ensures.err)

pub returns-in-Err-Damaged-clause-opens : goal.returns-in-Err-Damaged-clause-opens
returns-in-Err-Damaged-clause-opens c = open_exactly c.args.self.now _ (rw c.terms.ensures at c.stream-terms.ensures.ascending) (returns-in-Err-Damaged-clause-found c)

pub loop-ord-preserved : goal.loop-ord-preserved
loop-ord-preserved c =
    let l = c.loop-ord in
    let low : l.ord < length c.args.self.now.terms = search rules in
    let now = passed_on c.args.self.now l.terms c.advance.new.self c.advance.result l.ord low l.invariant c.advance.ensures.found c.advance.ensures.passed in
    checking_next c.args.self.now c.record_option-option.result l.terms c.advance.new.self l.ord c.value.result c.in-Ok.field-0 c.record_option-option.ensures l.invariant now c.value.ensures c.in-Ok.ensures.ok

pub returns-clause-opens : goal.returns-clause-opens
returns-clause-opens c =
    let l = c.loop-ord in
    let past : length c.args.self.now.terms ≤ l.ord = search rules in
    open_exactly c.args.self.now None (rw c.terms.ensures at c.stream-terms.ensures.ascending) (checking_ends c.args.self.now l.terms l.ord past l.invariant)

pub loop-ord-init : goal.loop-ord-init
loop-ord-init c = checking_first c.args.self.now c.stream-terms.result (rw c.terms.ensures at c.stream-terms.ensures.terms)
