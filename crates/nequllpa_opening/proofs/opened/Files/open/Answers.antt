use Rattle.std.proofs.Common.{List, ℕ, refl, subst, sym}
use Rattle.ii_definitions.specs.Fields.{option_of}
use Rattle.ii_definitions.specs.Files.{HoldTokens}
use Rattle.ii_definitions.specs.Norms.{HoldNorms}
use Rattle.ii_reader.proofs.IndexLemmas.{index_holds}
use Rattle.nequllpa_opening.proofs.opened.Files.open.Goals as goal

pub returns-clause-holds : goal.returns-clause-holds
returns-clause-holds c n ts hold norms =
    let option = option_of c.args.schema.now in
    let files = c.args.self in
    let terms = c.in_ok-terms.terms in
    let postings = c.in_ok-postings.postings in
    let positions = c.in_ok-positions.positions in
    let a = sym c.in_ok-terms.ensures.ok in
    let b = sym c.in_ok-postings.ensures.ok in
    let d = sym c.in_ok-positions.ensures.ok in
    let e = sym c.in_ok-fieldnorms.ensures.ok in
    let read = subst (λ (x : List ℕ). HoldNorms c.args.schema.now n x ts) e norms in
    let tokens = subst (λ (x : List ℕ). HoldTokens option x postings positions ts) a
    (subst (λ (x : List ℕ). HoldTokens option files.terms.items x positions ts) b
    (subst (λ (x : List ℕ). HoldTokens option files.terms.items files.postings.items x ts) d hold)) in
    index_holds c.args.schema.now n ts c.open_index_with_norms.result (c.open_index_with_norms.ensures.holds ts tokens (rw read.opened refl)) (c.open_index_with_norms.ensures.norms n ts read)
