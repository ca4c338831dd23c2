use Rattle.std.proofs.Common.{map, sym}
use Rattle.ii_termdict.specs.Dictionary.{dictionary}
use Rattle.ii_termdict_slice.proofs.ReadingLemmas.{reads_ok}
use Rattle.ii_warmup.specs.QueryTerms.{range_view, requests_of, term_view}
use Rattle.ii_warmup.proofs.FieldPartLemmas.{no_terms, none_requested}
use Rattle.ii_warmup.proofs.LookedUpLemmas.{if_ok, none_ascend}
use Rattle.ii_warmup.proofs.looked_up_terms.read_wanted_terms.Goals as goal

pub returns-then-not-names_field-clause-ascending : goal.returns-then-not-names_field-clause-ascending
returns-then-not-names_field-clause-ascending g c = rw c.new.ensures.items none_ascend

pub returns-then-not-names_field-clause-reads : goal.returns-then-not-names_field-clause-reads
returns-then-not-names_field-clause-reads g c =
    let requested = requests_of c.args.terms.now c.args.ranges.now c.args.field in
    let none = none_requested (map term_view c.args.terms.now) (map range_view c.args.ranges.now) c.args.field (sym c.if-not-names_field.ensures) in
    reads_ok (λ bs known there. if_ok (dictionary bs) (λ entries is. rw c.new.ensures.items (sym (no_terms requested none entries))))
