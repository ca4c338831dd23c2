use Rattle.std.proofs.Common.{◌≡◌, ◌∙◌, ℕ, List, [], ◌∷◌, ap, ap₂}
use Rattle.ii_base.specs.Entries.{Entry}
use Rattle.ii_docset.specs.Intersection.{has_doc}
use Rattle.ii_query.specs.Phrase.{PhrasePartState, parts_in}
use Rattle.ii_query.specs.SloppyPhrase.{sloppy_docs}
use Rattle.ii_promises.proofs.NearLaws.{near_neighbours}
use Rattle.ii_promises.proofs.PhraseLaws.{next_term}
use Rattle.ii_promises.proofs.queries.neighbours_are_found_within.Goals as goal

pub returns-clause-found : goal.returns-clause-found
returns-clause-found c =
    let part : c.new.result.part ≡ next_term c.args.second.rest = ap₂ (λ (n : ℕ) (es : List Entry). record { distance = n; rest = es }) c.new.ensures.distance c.new.ensures.rest in
    let parts : parts_in c.push.new.self.items ≡ next_term c.args.second.rest ∷ [] = rw (c.in_ok-push.ensures.items, c.new-others.ensures.items) (ap (λ (p : PhrasePartState). p ∷ []) part) in
    c.has.ensures
    ∙ ap (λ (slop : ℕ). has_doc (sloppy_docs slop c.new-2.result.phrase.first c.new-2.result.phrase.others) c.args.doc) c.new-2.ensures.slop
    ∙ ap (λ (es : List Entry). has_doc es c.args.doc) c.new-2.ensures.rest
    ∙ ap (λ (others : List PhrasePartState). has_doc (sloppy_docs c.args.slop c.args.first.rest others) c.args.doc) parts
    ∙ near_neighbours c.args.slop c.args.first.rest c.args.second.rest c.args.doc
