use Rattle.std.proofs.Common.{◌∙◌, ◌≤◌, List, Result, ap, length, subst, sym, arith}
use Rattle.std.specs.Prelude.{slice_get}
use Rattle.ii_io.specs.declared.faults.Part.{Part}
use Rattle.ii_base.specs.Entries.{Entry}
use Rattle.ii_query.specs.Combined.{union_of}
use Rattle.ii_reader.specs.InvertedIndexReader.{IsRefusal}
use Rattle.ii_search.specs.Found.{combined_lists, phrase_with}
use Rattle.ii_search.proofs.PhrasePrefixLemmas.{lists_of_field}
use Rattle.ii_search.proofs.RangeLemmas.{collecting_all, collecting_next, collecting_refused}
use Rattle.ii_search.proofs.phrase_prefixes.docs_of_phrases.Goals as goal

pub returns-in-Err-clause-refused : goal.returns-in-Err-clause-refused
returns-in-Err-clause-refused c =
    let index = c.args.index.now in
    let p = c.args.phrase.now in
    let terms = c.terms-terms.result.now in
    let lists = lists_of_field index p c.reader.result.now terms (ap (slice_get index.readers) (sym c.field.ensures) ∙ c.reader.ensures) c.terms-terms.ensures in
    subst (λ (found : Result (List (List Entry)) Part). IsRefusal (combined_lists union_of found) c.in-Err.fault) (sym lists)
    (collecting_refused (phrase_with index p) p.last terms c.loop-ord.ord c.key-key.result.now c.loop-ord.docs c.in-Err.fault c.loop-ord.invariant.collecting c.key-key.ensures c.in-Err.ensures.refused)

pub loop-ord-preserved : goal.loop-ord-preserved
loop-ord-preserved c =
    let p = c.args.phrase.now in
    record {
      collecting = collecting_next (phrase_with c.args.index.now p) p.last c.terms-terms.result.now c.loop-ord.ord c.key-key.result.now c.loop-ord.docs c.add_if_in_range.new.docs c.loop-ord.invariant.collecting c.key-key.ensures c.in_default.ensures.added;
      opened = c.in_default.ensures.opened;
    }

pub returns-clause-listed : goal.returns-clause-listed
returns-clause-listed c =
    let index = c.args.index.now in
    let p = c.args.phrase.now in
    let terms = c.terms-terms.result.now in
    let lists = lists_of_field index p c.reader.result.now terms (ap (slice_get index.readers) (sym c.field.ensures) ∙ c.reader.ensures) c.terms-terms.ensures in
    let end : length terms ≤ c.loop-ord.ord = omega (arith, c.loop-ord-test.false, c.num_terms-ord-end.ensures) in
    ap (combined_lists union_of) lists ∙ collecting_all (phrase_with index p) p.last terms c.loop-ord.ord c.loop-ord.docs end c.loop-ord.invariant.collecting
