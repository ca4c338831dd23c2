use Rattle.std.proofs.Common.{◌≡◌, ◌∙◌, ◌≤◌, ◌∷◌, [], List, length, min, rules, subst, sym}
use Rattle.ii_base.specs.Entries.{Entry}
use Rattle.ii_docset.specs.Cursor.{doc_at, IsSound}
use Rattle.ii_query.proofs.NestedLemmas.{either_at}
use Rattle.ii_query.specs.Combined.{either, union_of}
use Rattle.ii_query.specs.QueryCursor.{rests}
use Rattle.ii_query.proofs.HintLemmas.{stands_within}
use Rattle.ii_query.proofs.PartsLemmas.{union_two}
use Rattle.ii_query.proofs.query_cursor.union_of_two.Goals as goal

pub invariant_of-result : goal.invariant_of-result
invariant_of-result g c =
    let first : IsSound c.in_ok-first.first.value.rest = search rules in
    let other : IsSound c.in_ok-other.other.value.rest = search rules in
    let here : c.current.result ≡ doc_at c.in_ok-first.first.value.rest = search rules in
    let there : c.current-2.result ≡ doc_at c.in_ok-other.other.value.rest = search rules in
    let one : c.in_ok-first.first.value.rest ≡ c.args.first.rest = search rules in
    let two : c.in_ok-other.other.value.rest ≡ c.args.other.rest = search rules in
    let same : either c.in_ok-first.first.value.rest c.in_ok-other.other.value.rest ≡ union_of (rests (c.args.first ∷ c.args.other ∷ [])) = (λ j. either (one j) (two j)) ∙ sym (union_two c.args.first.rest c.args.other.rest c.current-2.ensures.sound) in
    rw (c.min-doc.ensures)
    (stands_within (min c.current.result c.current-2.result) c.args.hint (either c.in_ok-first.first.value.rest c.in_ok-other.other.value.rest)
    (either_at c.in_ok-first.first.value.rest c.in_ok-other.other.value.rest c.current.result c.current-2.result first other here there) (subst (λ (es : List Entry). length es ≤ c.args.hint) (sym same) c.requires))

pub returns-clause-rest : goal.returns-clause-rest
returns-clause-rest g c =
    let one : c.in_ok-first.first.value.rest ≡ c.args.first.rest = search rules in
    let two : c.in_ok-other.other.value.rest ≡ c.args.other.rest = search rules in
    (λ j. either (one j) (two j)) ∙ sym (union_two c.args.first.rest c.args.other.rest c.current-2.ensures.sound)
