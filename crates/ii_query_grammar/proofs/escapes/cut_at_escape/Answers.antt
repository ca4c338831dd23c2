use Rattle.std.proofs.lemmas.Str.{IsUtf8-drop}
use Rattle.std.proofs.Common.{◌≡◌, ◌∙◌, false, ap, rules}
use Rattle.ii_query_grammar.specs.declared.cut.Stop.TheVariants as stops
use Rattle.ii_query_grammar.specs.Lexemes.{place_of}
use Rattle.ii_query_grammar.proofs.CutLemmas.{backslash_boundary, place_boundary, unescaped_at, unescaped_none, unescaped_zero}
use Rattle.ii_query_grammar.proofs.escapes.cut_at_escape.Goals as goal

pub returns-then-place-text-clause-cases : goal.returns-then-place-text-clause-cases
returns-then-place-text-clause-cases c =
    let place : c.place_in-place.result ≡ place_of stops.Escaped false c.args.text.now = c.place_in-place.ensures ∙ ap (place_of stops.Escaped false) c.as_bytes.ensures.value in
    unescaped_none c.args.text.now (search (rules, place))

pub returns-then-place-eq0-clause-cases : goal.returns-then-place-eq0-clause-cases
returns-then-place-eq0-clause-cases c =
    let place : c.place_in-place.result ≡ place_of stops.Escaped false c.args.text.now = c.place_in-place.ensures ∙ ap (place_of stops.Escaped false) c.as_bytes.ensures.value in
    unescaped_zero c.args.text.now (search (rules, place))

pub split_at-requires : goal.split_at-requires
split_at-requires c =
    let place : c.place_in-place.result ≡ place_of stops.Escaped false c.args.text.now = c.place_in-place.ensures ∙ ap (place_of stops.Escaped false) c.as_bytes.ensures.value in
    backslash_boundary c.args.text.now c.place_in-place.result place c.if-place-text.false c.if-place-eq0.false

pub split_at-requires-2 : goal.split_at-requires-2
split_at-requires-2 c =
    let place : c.place_in-place.result ≡ place_of stops.Escaped false c.args.text.now = c.place_in-place.ensures ∙ ap (place_of stops.Escaped false) c.as_bytes.ensures.value in
    rw place (place_boundary stops.Escaped false c.args.text.now)

pub returns-clause-cases : goal.returns-clause-cases
returns-clause-cases c =
    let place : c.place_in-place.result ≡ place_of stops.Escaped false c.args.text.now = c.place_in-place.ensures ∙ ap (place_of stops.Escaped false) c.as_bytes.ensures.value in
    rw (c.split_at.ensures.front, c.split_at-2.ensures.back) (unescaped_at c.args.text.now c.place_in-place.result place c.if-place-text.false c.if-place-eq0.false)

pub returns-clause-text : goal.returns-clause-text
returns-clause-text c =
    let place : c.place_in-place.result ≡ place_of stops.Escaped false c.args.text.now = c.place_in-place.ensures ∙ ap (place_of stops.Escaped false) c.as_bytes.ensures.value in
    rw (c.split_at-2.ensures.back) (IsUtf8-drop c.args.text.now c.place_in-place.result c.utf8.text (rw place (place_boundary stops.Escaped false c.args.text.now)))
