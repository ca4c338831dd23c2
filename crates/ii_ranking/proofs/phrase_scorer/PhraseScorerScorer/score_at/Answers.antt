use Rattle.std.proofs.Common.{◌∙◌, ◌*◌, ◌^◌, ℕ, List, Option, ap, arith, refl, sym}
use Rattle.ii_base.specs.Entries.{Entry}
use Rattle.ii_bm25.specs.Bm25.{bm25_score}
use Rattle.ii_query.specs.Phrase.{PhrasePartState, parts_in}
use Rattle.ii_docset.specs.Cursor.{doc_at, from_doc}
use Rattle.ii_query.proofs.ReadsLemmas.{cleared_from, cleared_parts}
use Rattle.ii_ranking.specs.LeafScorers.{score_by_phrase}
use Rattle.ii_ranking.specs.NormIds.{id_among}
use Rattle.ii_ranking.specs.Scores.{entry_at}
use Rattle.ii_ranking.proofs.LeafLemmas.{entry_passed, entry_row, leaf_here, leaf_keeps, leaf_none, leaf_went}
use Rattle.ii_ranking.proofs.PhraseScoreLemmas.{moved_on, moved_same, starts_here, starts_moved, starts_score}
use Rattle.ii_ranking.proofs.ShareEntryLemmas.{entry_from}
use Rattle.ii_ranking.proofs.phrase_scorer.PhraseScorerScorer.score_at.Goals as goal

pub returns-then-go_to-doc-clause-score : goal.returns-then-go_to-doc-clause-score
returns-then-go_to-doc-clause-score c =
    let s = c.args.self.now in
    let rest = c.go_to.ensures.rest ∙ ap (λ (t : _). from_doc c.args.doc t.part.rest) c.clear.ensures in
    leaf_none _ (entry_row (λ (doc : ℕ) (found : Option Entry). starts_score s.slop (bm25_score s.weight (id_among s.norms doc)) (parts_in s.others.items) found) (λ doc. refl)) (s.weight.weight * 2 ^ 16) c.args.doc c.args.least c.go_to.result s.first.part.rest c.go_to.new.self.part.rest c.requires rest c.go_to.ensures.sound.ascending c.go_to.ensures.doc c.if-go_to-doc.true

pub returns-then-go_to-doc-clause-kept : goal.returns-then-go_to-doc-clause-kept
returns-then-go_to-doc-clause-kept c =
    let s = c.args.self.now in
    let rest = c.go_to.ensures.rest ∙ ap (λ (t : _). from_doc c.args.doc t.part.rest) c.clear.ensures in
    leaf_went _ (entry_row (λ (doc : ℕ) (found : Option Entry). starts_score s.slop (bm25_score s.weight (id_among s.norms doc)) (parts_in s.others.items) found) (λ doc. refl)) (s.weight.weight * 2 ^ 16) c.args.doc s.first.part.rest c.go_to.new.self.part.rest rest

pub count_starts-count-requires-clause-others_unread : goal.count_starts-count-requires-clause-others_unread
count_starts-count-requires-clause-others_unread c = rw c.clear_all.ensures (cleared_from (doc_at c.go_to.new.self.part.rest) c.args.self.now.others.items)

pub returns-clause-score : goal.returns-clause-score
returns-clause-score c =
    let s = c.args.self.now in
    let rest = c.go_to.ensures.rest ∙ ap (λ (t : _). from_doc c.args.doc t.part.rest) c.clear.ensures in
    let here = sym c.if-go_to-doc.false ∙ c.go_to.ensures.doc in
    let old = parts_in s.others.items in
    let now = parts_in c.clear_all.new.others.items in
    let m = moved_same c.args.doc old now (ap (λ (ts : _). parts_in ts) c.clear_all.ensures ∙ cleared_parts s.others.items) in
    let counted = starts_here s.slop (bm25_score s.weight (id_among s.norms c.args.doc)) c.args.doc c.count_starts-count.result c.go_to.new.self.part.rest old now here c.requires m c.count_starts-count.ensures.count in
    leaf_here _ (entry_row (λ (doc : ℕ) (found : Option Entry). starts_score s.slop (bm25_score s.weight (id_among s.norms doc)) (parts_in s.others.items) found) (λ doc. refl)) (s.weight.weight * 2 ^ 16) c.args.doc c.args.least s.first.part.rest c.go_to.new.self.part.rest c.if_at_least.result c.score_of.result c.requires rest c.if_at_least.ensures (counted ∙ sym c.score_of.ensures.among)

pub returns-clause-kept : goal.returns-clause-kept
returns-clause-kept c =
    let s = c.args.self.now in
    let rest = ap (λ (p : PhrasePartState). p.rest) c.count_starts-count.ensures.first_same ∙ c.go_to.ensures.rest ∙ ap (λ (t : _). from_doc c.args.doc t.part.rest) c.clear.ensures in
    let here = sym c.if-go_to-doc.false ∙ c.go_to.ensures.doc in
    let old = parts_in s.others.items in
    let now = parts_in c.clear_all.new.others.items in
    let new = parts_in c.count_starts-count.new.others.items in
    let m = moved_same c.args.doc old now (ap (λ (ts : _). parts_in ts) c.clear_all.ensures ∙ cleared_parts s.others.items) in
    let moved = moved_on c.args.doc c.args.doc old now new m (record { alike = λ test d up. c.count_starts-count.ensures.others_alike test d (omega (arith, here, up)) }) (omega arith) in
    let score = λ (d : ℕ). bm25_score s.weight (id_among s.norms d) in
    leaf_keeps (score_by_phrase s) (λ (d : ℕ). starts_score s.slop (score d) new (entry_at c.count_starts-count.new.first.part.rest d)) (s.weight.weight * 2 ^ 16) c.args.doc
    (λ d from. starts_moved s.slop (score d) c.args.doc d c.count_starts-count.new.first.part.rest old new from moved
    ∙ ap (λ (es : List Entry). starts_score s.slop (score d) old (entry_at es d)) rest ∙ ap (starts_score s.slop (score d) old) (entry_from c.args.doc d s.first.part.rest from))
    (λ d low. ap (λ (es : List Entry). starts_score s.slop (score d) new (entry_at es d)) rest ∙ ap (starts_score s.slop (score d) new) (entry_passed c.args.doc d s.first.part.rest low))
