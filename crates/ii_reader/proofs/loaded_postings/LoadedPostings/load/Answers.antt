use Rattle.std.proofs.Common.{◌+◌, ap, ◌∙◌, drop, refl, rules}
use Rattle.std.proofs.lemmas.Result.{err_from_is_err_and}
use Rattle.ii_docset.specs.Cursor.{term_freq_at}
use Rattle.ii_reader.proofs.LoadedLemmas.{at_least_none, loaded_more, loaded_none, loaded_one, loaded_part, loaded_refused, loading_end, loading_refused, whole_end, whole_loaded}
use Rattle.ii_reader.proofs.loaded_postings.LoadedPostings.load.Goals as goal

pub returns-in_err-push-clause-work : goal.returns-in_err-push-clause-work
returns-in_err-push-clause-work g c = g.met.P.Postings.spent_more 0 0 _ _ _ _ (at_least_none _) (at_least_none _) (g.met.P.Postings.spent_moving _ _ (g.met.P.DocSet.went_nowhere _))

pub loop-doc-init : goal.loop-doc-init
loop-doc-init g c = record {
  here = c.doc-doc.ensures.doc;
  sound = c.doc-doc.ensures.sound;
  loading = search rules;
  kind = refl;
  work = (0, 0, loaded_none _ _, g.met.P.Postings.spent_moving _ _ (g.met.P.DocSet.went_nowhere _));
}

pub returns-in_err-push-2-clause-work : goal.returns-in_err-push-2-clause-work
returns-in_err-push-2-clause-work g c =
    let (asked, counts, passed, did) = c.loop-doc.invariant.work in
    let part = loaded_part asked counts _ _ _ passed in
    g.met.P.Postings.spent_more _ _ _ _ _ _ part.0 part.1 did

pub returns-in_err-end-clause-work : goal.returns-in_err-end-clause-work
returns-in_err-end-clause-work g c =
    let (asked, counts, passed, did) = c.loop-doc.invariant.work in
    let part = loaded_refused asked counts _ _ _ _ passed (rw c.loop-doc.invariant.here at c.loop-doc-test.true) c.loop-doc.invariant.kind in
    g.met.P.Postings.spent_more _ _ _ _ _ _ part.0 part.1 (g.met.P.Postings.spent_on _ _ _ _ _ _ _ did c.in_err-end.ensures.work)

pub returns-in_err-push-3-clause-work : goal.returns-in_err-push-3-clause-work
returns-in_err-push-3-clause-work g c =
    let (asked, counts, passed, did) = c.loop-doc.invariant.work in
    let part = loaded_refused asked counts _ _ _ _ passed (rw c.loop-doc.invariant.here at c.loop-doc-test.true) c.loop-doc.invariant.kind in
    g.met.P.Postings.spent_more _ _ _ _ _ _ part.0 part.1 (g.met.P.Postings.spent_on _ _ _ _ _ _ _ did c.in_ok-end.ensures.work)

pub returns-clause-work : goal.returns-clause-work
returns-clause-work g c =
    let (asked, counts, passed, did) = c.loop-doc.invariant.work in
    let part = loaded_part asked counts _ _ _ passed in
    g.met.P.Postings.spent_more _ _ _ _ _ _ part.0 part.1 did

pub loop-doc-preserved : goal.loop-doc-preserved
loop-doc-preserved g c =
    let l = c.loop-doc in
    let rest = g.P.DocSet.rest l.source in
    let added = c.in_ok-end.ensures.ok in
    let next = c.advance-doc.ensures.rest ∙ ap (drop 1) c.in_ok-end.ensures.rest in
    let (asked, counts, passed, did) = l.invariant.work in
    record {
      here = c.advance-doc.ensures.doc;
      sound = c.advance-doc.ensures.sound;
      loading = rw (c.in_ok-push-2.ensures.items, c.in_ok-push-3.ensures.items, c.in_ok-end.ensures.end, added)
          (loaded_more (g.P.DocSet.rest c.args.source.now) rest (g.P.DocSet.rest c.advance-doc.new.self) l.doc_ids.items l.position_offsets.items l.positions.items l.doc l.invariant.here c.loop-doc-test.true l.invariant.loading next (rw added at c.in_ok-end.ensures.few));
      kind = c.advance-doc.ensures.kind ∙ c.in_ok-end.ensures.kind ∙ l.invariant.kind;
      work = (
        asked + (1 + 0),
        counts + (term_freq_at (g.P.DocSet.always_one l.source) rest + 0),
        loaded_one asked counts _ _ _ rest _ passed (rw l.invariant.here at c.loop-doc-test.true) next l.invariant.kind,
        g.met.P.Postings.spent_on _ _ _ _ _ _ _ did (g.met.P.Postings.spent_on _ _ _ _ _ _ _ c.in_ok-end.ensures.work (g.met.P.Postings.spent_moving _ _ c.advance-doc.ensures.work)),
      );
    }

pub invariant_of-result : goal.invariant_of-result
invariant_of-result g c = let l = c.loop-doc in (whole_loaded (g.P.DocSet.rest c.args.source.now) (g.P.DocSet.rest l.source) l.doc_ids.items l.position_offsets.items l.positions.items l.doc l.invariant.here c.loop-doc-test.false c.doc-doc.ensures.sound l.invariant.sound l.invariant.loading).held

pub returns-clause-ok : goal.returns-clause-ok
returns-clause-ok g c = let l = c.loop-doc in (whole_loaded (g.P.DocSet.rest c.args.source.now) (g.P.DocSet.rest l.source) l.doc_ids.items l.position_offsets.items l.positions.items l.doc l.invariant.here c.loop-doc-test.false c.doc-doc.ensures.sound l.invariant.sound l.invariant.loading).is

pub returns-clause-num_docs : goal.returns-clause-num_docs
returns-clause-num_docs g c = let l = c.loop-doc in (whole_loaded (g.P.DocSet.rest c.args.source.now) (g.P.DocSet.rest l.source) l.doc_ids.items l.position_offsets.items l.positions.items l.doc l.invariant.here c.loop-doc-test.false c.doc-doc.ensures.sound l.invariant.sound l.invariant.loading).many

pub returns-clause-few : goal.returns-clause-few
returns-clause-few g c = let l = c.loop-doc in (whole_loaded (g.P.DocSet.rest c.args.source.now) (g.P.DocSet.rest l.source) l.doc_ids.items l.position_offsets.items l.positions.items l.doc l.invariant.here c.loop-doc-test.false c.doc-doc.ensures.sound l.invariant.sound l.invariant.loading).few

pub returns-clause-rest : goal.returns-clause-rest
returns-clause-rest g c = let l = c.loop-doc in (whole_loaded (g.P.DocSet.rest c.args.source.now) (g.P.DocSet.rest l.source) l.doc_ids.items l.position_offsets.items l.positions.items l.doc l.invariant.here c.loop-doc-test.false c.doc-doc.ensures.sound l.invariant.sound l.invariant.loading).ended

pub returns-in_err-push-clause-on_its_way : goal.returns-in_err-push-clause-on_its_way
returns-in_err-push-clause-on_its_way g c = whole_end (g.P.DocSet.rest c.args.source.now)

pub returns-in_err-push-2-clause-on_its_way : goal.returns-in_err-push-2-clause-on_its_way
returns-in_err-push-2-clause-on_its_way g c =
    let l = c.loop-doc in
    loading_end (g.P.DocSet.rest c.args.source.now) (g.P.DocSet.rest l.source) l.doc_ids.items l.position_offsets.items l.positions.items l.invariant.loading

pub returns-in_err-end-clause-on_its_way : goal.returns-in_err-end-clause-on_its_way
returns-in_err-end-clause-on_its_way g c =
    let l = c.loop-doc in
    rw c.in_err-end.ensures.rest (loading_end (g.P.DocSet.rest c.args.source.now) (g.P.DocSet.rest l.source) l.doc_ids.items l.position_offsets.items l.positions.items l.invariant.loading)

pub returns-in_err-push-3-clause-on_its_way : goal.returns-in_err-push-3-clause-on_its_way
returns-in_err-push-3-clause-on_its_way g c =
    let l = c.loop-doc in
    rw c.in_ok-end.ensures.rest (loading_end (g.P.DocSet.rest c.args.source.now) (g.P.DocSet.rest l.source) l.doc_ids.items l.position_offsets.items l.positions.items l.invariant.loading)

pub returns-clause-on_its_way : goal.returns-clause-on_its_way
returns-clause-on_its_way g c =
    let l = c.loop-doc in
    loading_end (g.P.DocSet.rest c.args.source.now) (g.P.DocSet.rest l.source) l.doc_ids.items l.position_offsets.items l.positions.items l.invariant.loading

pub returns-in_err-end-clause-err : goal.returns-in_err-end-clause-err
returns-in_err-end-clause-err g c =
    let l = c.loop-doc in
    let p = err_from_is_err_and c.from_residual-in_err-end.result c.from_residual-in_err-end.ensures.1 in
    rw (p.1, p.2) (loading_refused (g.P.DocSet.rest c.args.source.now) (g.P.DocSet.rest l.source) l.doc_ids.items l.position_offsets.items l.positions.items _ l.invariant.loading c.in_err-end.ensures.err)
