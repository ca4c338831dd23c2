use Rattle.std.proofs.Common.{◌≡◌, ◌∙◌, ◌∷◌, List, ap, subst}
use Rattle.std.specs.List.{AllZip}
use Rattle.ii_docset.specs.Cursor.{doc_at}
use Rattle.ii_query.specs.Phrase.{PhraseTermState, ReadsOnce, Spent, cursors_in, parts_in, phrase_docs, unread_term}
use Rattle.ii_query.proofs.ReadsLemmas.{cleared_cursors, cleared_from, cleared_parts, cleared_same, cursors_spent}
use Rattle.ii_query.proofs.SloppyLemmas.{zero_at, zero_same}
use Rattle.ii_query.proofs.phrase.PhraseMatch.new.Goals as goal

pub go_to_phrase-requires-clause-others_unread : goal.go_to_phrase-requires-clause-others_unread
go_to_phrase-requires-clause-others_unread g c current = rw c.clear_all.ensures (cleared_from (doc_at c.new-first.result.part.rest) c.args.others.items)

pub returns-clause-rest : goal.returns-clause-rest
returns-clause-rest g c =
    let ts = c.args.others.items in
    zero_same c.new-first.result.part.rest c.go_to_phrase.new.first.part.rest (parts_in c.clear_all.new.others.items) (parts_in c.go_to_phrase.new.others.items) c.go_to_phrase.ensures.rest ∙ (λ j. phrase_docs (c.new-first.ensures.rest j) ((ap parts_in c.clear_all.ensures ∙ cleared_parts ts) j))

pub returns-clause-work : goal.returns-clause-work
returns-clause-work g c =
    let ts = c.args.others.items in
    let reads : AllZip (ReadsOnce g.P.Postings.spent) (c.new-first.result ∷ c.clear_all.new.others.items) (c.go_to_phrase.new.first ∷ c.go_to_phrase.new.others.items) = (c.go_to_phrase.ensures.first_work, c.go_to_phrase.ensures.other_work) in
    let spent = cursors_spent g.P.Postings.spent (c.new-first.result ∷ c.clear_all.new.others.items) (c.go_to_phrase.new.first ∷ c.go_to_phrase.new.others.items) reads in
    subst (λ (cs : List _). AllZip (Spent g.P.Postings.spent) cs (cursors_in (c.go_to_phrase.new.first ∷ c.go_to_phrase.new.others.items))) (λ j. c.new-first.ensures.cursor j ∷ (ap cursors_in c.clear_all.ensures ∙ cleared_cursors ts) j) spent

pub returns-clause-reads : goal.returns-clause-reads
returns-clause-reads g c all =
    let ts = c.args.others.items in
    let first : c.new-first.result ≡ unread_term 0 (g.P.DocSet.rest c.args.first) c.args.first =
    c.new-first.ensures.unread ∙ (λ j. unread_term (c.new-first.ensures.distance j) (c.new-first.ensures.rest j) (c.new-first.ensures.cursor j)) in
    let reads : AllZip (ReadsOnce g.P.Postings.spent) (c.new-first.result ∷ c.clear_all.new.others.items) (c.go_to_phrase.new.first ∷ c.go_to_phrase.new.others.items) = (c.go_to_phrase.ensures.first_work, c.go_to_phrase.ensures.other_work) in
    subst (λ (os : List (PhraseTermState _)). AllZip (ReadsOnce g.P.Postings.spent) os (c.go_to_phrase.new.first ∷ c.go_to_phrase.new.others.items)) (λ j. first j ∷ (c.clear_all.ensures ∙ cleared_same ts all) j) reads

pub invariant_of-result : goal.invariant_of-result
invariant_of-result g c =
    (zero_at c.go_to_phrase.new.first.part.rest (parts_in c.go_to_phrase.new.others.items) c.go_to_phrase.ensures.at, c.go_to_phrase.ensures.unread, c.go_to_phrase.ensures.leads)
