use Rattle.std.proofs.Common.{◌≡◌, ℕ, ◌<◌, arith, refl, subst, sym}
use Rattle.ii_docset.specs.Cursor.{doc_at}
use Rattle.ii_prepared_term.specs.PreparedTerms.{GoesTo}
use Rattle.ii_prepared_term.proofs.PreparedLemmas.{finds_one, goes_nowhere, goes_past, goes_there}
use Rattle.ii_prepared_term.proofs.ReadLemmas.{reads_one, rest_none}
use Rattle.ii_prepared_term.proofs.prepared_scorer.go_to.Goals as goal

pub returns-then-doc-target-clause-went : goal.returns-then-doc-target-clause-went
returns-then-doc-target-clause-went c =
    let rest = c.args.cursor.now.rest in
    let at = c.doc-doc.ensures.doc in
    let above = c.if-doc-target.true in
    subst (λ (doc : ℕ). GoesTo c.args.target doc rest rest) (sym at) (goes_nowhere c.args.target rest c.requires.prepared.sound (omega (arith, at, above)))

pub returns-then-doc-target-clause-work : goal.returns-then-doc-target-clause-work
returns-then-doc-target-clause-work c = rest_none (λ (from : ℕ). from ≡ c.args.target) c.args.cursor.now

pub returns-then-target-end-clause-went : goal.returns-then-target-end-clause-went
returns-then-target-end-clause-went c =
    let past = c.if-target-end.true in
    let end = c.end.ensures in
    goes_past (record c.args.term.now { cursor = c.args.cursor.now }) c.args.target c.requires.prepared c.requires.up_to (omega (arith, past, end))

pub returns-then-target-end-clause-work : goal.returns-then-target-end-clause-work
returns-then-target-end-clause-work c = rest_none (λ (from : ℕ). from ≡ c.args.target) c.args.cursor.now

pub returns-clause-went : goal.returns-clause-went
returns-clause-went c = goes_there c.args.target c.seek.result c.args.cursor.now.rest c.seek.new.self.rest c.requires.up_to c.seek.ensures.doc c.seek.ensures.rest c.seek.ensures.sound

pub returns-clause-work : goal.returns-clause-work
returns-clause-work c =
    let is = c.requires.prepared in
    let at = c.doc-doc.ensures.doc in
    let before = c.if-doc-target.false in
    let inside = c.if-target-end.false in
    let end = c.end.ensures in
    let ahead : doc_at c.args.cursor.now.rest < c.args.target = omega (arith, at, before) in
    let found = finds_one c.args.term.now.shares c.args.target c.args.cursor.now.rest c.seek.new.self.rest is.ends (omega (arith, inside, end)) ahead c.seek.ensures.rest c.seek.ensures.sound.ascending in
    record {
      many = c.seek.ensures.work.doc_freq;
      reads = λ docs h. reads_one docs c.args.target c.args.cursor.now c.seek.new.self h is.sound.ascending c.seek.ensures.rest (λ (from : ℕ). from ≡ c.args.target) refl ahead found c.seek.ensures.work c.seek.ensures.once c.seek.ensures.place;
    }
