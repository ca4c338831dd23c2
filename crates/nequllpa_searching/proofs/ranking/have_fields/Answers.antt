use Rattle.std.proofs.Common.{◌≡◌, ◌∙◌, ◌+◌, Bool, true, false, ap, drop, length, sym}
use Rattle.std.specs.List.{list_all}
use Rattle.std.proofs.lemmas.List.{drop_all}
use Rattle.ii_query_parser.specs.Queries.{has_fields}
use Rattle.ii_statistics.proofs.CountLemmas.{dropped_at}
use Rattle.nequllpa_opening.specs.declared.opened.Opened.{Opened}
use Rattle.nequllpa_searching.proofs.RankingLemmas.{each_ended, each_fails, each_next}
use Rattle.nequllpa_searching.proofs.ranking.have_fields.Goals as goal

pub returns-then-not-has_fields : goal.returns-then-not-has_fields
returns-then-not-has_fields c =
    let l = c.loop-place in
    let os = c.args.segments.now in
    let o = c.index-segments-place.result in
    let test : Opened → Bool = λ p. has_fields (length p.index.readers) c.args.query.now in
    let many = o.many in
    let fails : test o ≡ false = ap (λ n. has_fields n c.args.query.now) (many ∙ sym (ap length c.schema.ensures)) ∙ sym c.has_fields.ensures ∙ c.if-not-has_fields.true in
    sym (each_fails test (drop l.place os) (drop (l.place + 1) os) o (dropped_at os l.place o c.loop-place-test.true c.index-segments-place.is) (list_all test os) fails l.invariant)

pub loop-place-preserved : goal.loop-place-preserved
loop-place-preserved c =
    let l = c.loop-place in
    let os = c.args.segments.now in
    let o = c.index-segments-place.result in
    let test : Opened → Bool = λ p. has_fields (length p.index.readers) c.args.query.now in
    let many = o.many in
    let passes : test o ≡ true = ap (λ n. has_fields n c.args.query.now) (many ∙ sym (ap length c.schema.ensures)) ∙ sym c.has_fields.ensures ∙ c.if-not-has_fields.false in
    each_next test (drop l.place os) (drop (l.place + 1) os) o (dropped_at os l.place o c.loop-place-test.true c.index-segments-place.is) (list_all test os) passes l.invariant

pub returns : goal.returns
returns c =
    let l = c.loop-place in
    let os = c.args.segments.now in
    let test : Opened → Bool = λ p. has_fields (length p.index.readers) c.args.query.now in
    sym (each_ended test (drop l.place os) (list_all test os) (drop_all l.place os c.loop-place-test.false) l.invariant)
