use Rattle.std.proofs.Common.{◌≤◌, [], arith}
use Rattle.ii_scorer.specs.BestDocs.{IsNeeded}
use Rattle.ii_scorer.specs.Scorers.{doc_bound, score_of}
use Rattle.ii_folder_promises.proofs.DecodingLaws.{all_docs, documents_pay, few_needed, frequencies_pay, of_none, once}
use Rattle.ii_folder_promises.proofs.scorers.blocks_are_decoded_where_that_may_pay.Goals as goal

pub push_best-requires : goal.push_best-requires
push_best-requires g c =
    let few = c.ranges.num_docs.fits in
    record { ascend = λ doc later up inside. up; fit = λ doc inside. omega (arith, inside, few) }

pub returns-in-Ok-clause-documents : goal.returns-in-Ok-clause-documents
returns-in-Ok-clause-documents g c =
    let s = g.T.Scorer.state c.args.scorer.now in
    let top = c.computer-computer.result.top_n in
    let wanted = rw c.with_limit-docs.ensures at c.computer-computer.ensures.wanted in
    let fits = c.ranges.limit.fits in
    let few : top ≤ c.args.limit = omega (arith, wanted, fits) in
    documents_pay c.args.limit (doc_bound s) (score_of s) (IsNeeded [] (all_docs c.args.num_docs) s top) (few_needed c.args.num_docs c.args.limit top s few) s.lists (g.T.Scorer.state c.push_best.new.scorer).lists (c.push_best.ensures.work [] c.computer-computer.ensures.none (of_none c.args.num_docs))

pub returns-in-Ok-clause-frequencies : goal.returns-in-Ok-clause-frequencies
returns-in-Ok-clause-frequencies g c =
    let s = g.T.Scorer.state c.args.scorer.now in
    let top = c.computer-computer.result.top_n in
    let wanted = rw c.with_limit-docs.ensures at c.computer-computer.ensures.wanted in
    let fits = c.ranges.limit.fits in
    let few : top ≤ c.args.limit = omega (arith, wanted, fits) in
    frequencies_pay c.args.limit (doc_bound s) (score_of s) (IsNeeded [] (all_docs c.args.num_docs) s top) (few_needed c.args.num_docs c.args.limit top s few) s.lists (g.T.Scorer.state c.push_best.new.scorer).lists (c.push_best.ensures.work [] c.computer-computer.ensures.none (of_none c.args.num_docs))

pub returns-in-Ok-clause-once : goal.returns-in-Ok-clause-once
returns-in-Ok-clause-once g c =
    let s = g.T.Scorer.state c.args.scorer.now in
    once (IsNeeded [] (all_docs c.args.num_docs) s c.computer-computer.result.top_n) s.lists (g.T.Scorer.state c.push_best.new.scorer).lists (c.push_best.ensures.work [] c.computer-computer.ensures.none (of_none c.args.num_docs))

pub returns-in-Err-clause-documents : goal.returns-in-Err-clause-documents
returns-in-Err-clause-documents g c =
    let s = g.T.Scorer.state c.args.scorer.now in
    let top = c.computer-computer.result.top_n in
    let wanted = rw c.with_limit-docs.ensures at c.computer-computer.ensures.wanted in
    let fits = c.ranges.limit.fits in
    let few : top ≤ c.args.limit = omega (arith, wanted, fits) in
    documents_pay c.args.limit (doc_bound s) (score_of s) (IsNeeded [] (all_docs c.args.num_docs) s top) (few_needed c.args.num_docs c.args.limit top s few) s.lists (g.T.Scorer.state c.push_best.new.scorer).lists (c.push_best.ensures.work [] c.computer-computer.ensures.none (of_none c.args.num_docs))

pub returns-in-Err-clause-frequencies : goal.returns-in-Err-clause-frequencies
returns-in-Err-clause-frequencies g c =
    let s = g.T.Scorer.state c.args.scorer.now in
    let top = c.computer-computer.result.top_n in
    let wanted = rw c.with_limit-docs.ensures at c.computer-computer.ensures.wanted in
    let fits = c.ranges.limit.fits in
    let few : top ≤ c.args.limit = omega (arith, wanted, fits) in
    frequencies_pay c.args.limit (doc_bound s) (score_of s) (IsNeeded [] (all_docs c.args.num_docs) s top) (few_needed c.args.num_docs c.args.limit top s few) s.lists (g.T.Scorer.state c.push_best.new.scorer).lists (c.push_best.ensures.work [] c.computer-computer.ensures.none (of_none c.args.num_docs))

pub returns-in-Err-clause-once : goal.returns-in-Err-clause-once
returns-in-Err-clause-once g c =
    let s = g.T.Scorer.state c.args.scorer.now in
    once (IsNeeded [] (all_docs c.args.num_docs) s c.computer-computer.result.top_n) s.lists (g.T.Scorer.state c.push_best.new.scorer).lists (c.push_best.ensures.work [] c.computer-computer.ensures.none (of_none c.args.num_docs))
