use Rattle.std.proofs.Common.{ℕ, arith, subst, sym}
use Rattle.ii_docset.proofs.CursorLemmas.{doc_below}
use Rattle.ii_ranking.specs.TermWeights.{SkipsFewer}
use Rattle.ii_ranking.proofs.SkipLemmas.{skips_to, skips_to_freq}
use Rattle.ii_ranking.proofs.term_scorer.go_to_freq.Goals as goal

pub seek_with_freq-requires : goal.seek_with_freq-requires
seek_with_freq-requires c =
    let at = c.doc-doc.ensures.doc in
    let from = c.max.ensures in
    let low = doc_below c.args.cursor.now.rest c.doc-doc.ensures.sound.ascending in
    let up = c.requires in
    record { up_to = omega (arith, at, from, low, up); forward = λ some. omega (arith, at, from) }

pub returns-then-freq-le1 : goal.returns-then-freq-le1
returns-then-freq-le1 c =
    subst (λ (doc : ℕ). SkipsFewer c.args.target c.args.freq doc c.args.cursor.now.rest c.go_on.new.cursor.rest) (sym c.go_on.ensures.doc)
    (skips_to c.args.target c.args.freq c.args.cursor.now.rest c.go_on.new.cursor.rest c.requires c.go_on.ensures.rest c.go_on.ensures.sound)

pub returns : goal.returns
returns c =
    let at = c.doc-doc.ensures.doc in
    let from = c.max.ensures in
    let low = doc_below c.args.cursor.now.rest c.doc-doc.ensures.sound.ascending in
    let up = c.requires in
    subst (λ (doc : ℕ). SkipsFewer c.args.target c.args.freq doc c.args.cursor.now.rest c.seek_with_freq.new.self.rest) (sym c.seek_with_freq.ensures.doc)
    (skips_to_freq c.args.target c.doc-doc.result c.max.result c.args.freq c.args.cursor.now.rest c.seek_with_freq.new.self.rest at from (omega (arith, at, from, low, up)) c.doc-doc.ensures.sound.ascending c.seek_with_freq.ensures.rest c.seek_with_freq.ensures.sound)
