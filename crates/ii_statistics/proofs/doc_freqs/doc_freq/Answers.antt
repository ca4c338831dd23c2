use Rattle.std.proofs.Common.{◌≡◌, ◌+◌, ◌<◌, [], List, Result, ap, arith, drop, length, map, rules, subst, sym}
use Rattle.std.proofs.lemmas.List.{drop_all, length-map}
use Rattle.ii_base.specs.Entries.{Entry}
use Rattle.ii_io.specs.declared.faults.Part.{Part}
use Rattle.ii_query_parser.specs.declared.query.Query.TheVariants.{Term}
use Rattle.ii_ranking.specs.Segments.{segment_of}
use Rattle.ii_ranking.proofs.SegmentLemmas.{segment_at}
use Rattle.ii_reader.specs.InvertedIndexReader.{IsRefusal}
use Rattle.ii_segment_search.specs.Searcher.{OpenSegmentState}
use Rattle.ii_statistics.specs.Listed.{CountsLiving}
use Rattle.ii_statistics.proofs.ListedLemmas.{added_all, added_listed, adding_few, adding_next, adding_refused, all_dropped, term_found}
use Rattle.ii_statistics.proofs.doc_freqs.doc_freq.Goals as goal

pub living_doc_freq-requires : goal.living_doc_freq-requires
living_doc_freq-requires c =
    let l = c.loop-place in
    let s = c.index-segments-place.result in
    record {
      field = all_dropped (λ (o : OpenSegmentState). c.args.term.now.field < length o.index.readers) (map segment_of c.args.segments.now) l.place (segment_of s) (drop (l.place + 1) (map segment_of c.args.segments.now)) c.requires.field
          (segment_at c.args.segments.now l.place s c.loop-place-test.true c.index-segments-place.is);
    }

pub returns-in-Err-clause-fault : goal.returns-in-Err-clause-fault
returns-in-Err-clause-fault c =
    let l = c.loop-place in
    let all = map segment_of c.args.segments.now in
    let s = c.index-segments-place.result in
    let at = segment_at c.args.segments.now l.place s c.loop-place-test.true c.index-segments-place.is in
    let refused = subst (λ (found : Result (List Entry) Part). IsRefusal found c.in-Err.fault) (sym (term_found s.index.now c.args.term.now)) c.in-Err.ensures.refused in
    adding_refused (Term c.args.term.now) all (drop l.place all) (drop (l.place + 1) all) l.total (segment_of s) at l.invariant c.in-Err.fault refused

pub overflow_add-total : goal.overflow_add-total
overflow_add-total c =
    let l = c.loop-place in
    let all = map segment_of c.args.segments.now in
    let s = c.index-segments-place.result in
    let at = segment_at c.args.segments.now l.place s c.loop-place-test.true c.index-segments-place.is in
    let counts = subst (λ (found : Result (List Entry) Part). CountsLiving found s.alive.now c.in-Ok.more) (sym (term_found s.index.now c.args.term.now)) c.in-Ok.ensures.counted in
    let few = adding_few (Term c.args.term.now) all (drop l.place all) (drop (l.place + 1) all) l.total (segment_of s) at l.invariant c.in-Ok.more counts c.requires.few in
    let same = c.from-total.ensures in
    let more : l.total + c.from-total.result < 4294967296 = omega (arith, few, same) in
    search (rules, more)

pub loop-place-preserved : goal.loop-place-preserved
loop-place-preserved c =
    let l = c.loop-place in
    let all = map segment_of c.args.segments.now in
    let s = c.index-segments-place.result in
    let at = segment_at c.args.segments.now l.place s c.loop-place-test.true c.index-segments-place.is in
    let counts = subst (λ (found : Result (List Entry) Part). CountsLiving found s.alive.now c.in-Ok.more) (sym (term_found s.index.now c.args.term.now)) c.in-Ok.ensures.counted in
    adding_next (Term c.args.term.now) all (drop l.place all) (drop (l.place + 1) all) l.total (segment_of s) at l.invariant c.in-Ok.more (l.total + c.from-total.result) counts (ap (λ n. l.total + n) c.from-total.ensures)

pub returns-clause-counted : goal.returns-clause-counted
returns-clause-counted c =
    let l = c.loop-place in
    let all = map segment_of c.args.segments.now in
    let many = length-map c.args.segments.now segment_of in
    let none : drop l.place all ≡ [] = drop_all l.place all (omega (arith, many, c.loop-place-test.false)) in
    added_all (Term c.args.term.now) all (drop l.place all) l.total none l.invariant

pub returns-clause-listed : goal.returns-clause-listed
returns-clause-listed c =
    let l = c.loop-place in
    let all = map segment_of c.args.segments.now in
    let many = length-map c.args.segments.now segment_of in
    let none : drop l.place all ≡ [] = drop_all l.place all (omega (arith, many, c.loop-place-test.false)) in
    added_listed (Term c.args.term.now) all (drop l.place all) l.total none l.invariant
