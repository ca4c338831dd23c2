use Rattle.std.proofs.lemmas.Str.{IsUtf8-drop}
use Rattle.std.proofs.Common.{◌≡◌, ◌∙◌, ◌<◌, ◌+◌, ap, arith, length, rules}
use Rattle.ii_query_grammar.specs.Lexemes.{place_of}
use Rattle.ii_query_grammar.proofs.CutLemmas.{after_special_boundary, escaped_here, escaped_none, place_within, special_boundary}
use Rattle.ii_query_grammar.proofs.escapes.cut_at_special.Goals as goal

pub returns-then-place-text-clause-cases : goal.returns-then-place-text-clause-cases
returns-then-place-text-clause-cases c =
    let place : c.place_in-place.result ≡ place_of c.args.stop c.args.after_backslash c.args.text.now = c.place_in-place.ensures ∙ ap (place_of c.args.stop c.args.after_backslash) c.as_bytes.ensures.value in
    escaped_none c.args.stop c.args.after_backslash c.args.text.now (search (rules, place))

pub split_at-requires : goal.split_at-requires
split_at-requires c =
    let place : c.place_in-place.result ≡ place_of c.args.stop c.args.after_backslash c.args.text.now = c.place_in-place.ensures ∙ ap (place_of c.args.stop c.args.after_backslash) c.as_bytes.ensures.value in
    let few = place_within c.args.stop c.args.after_backslash c.args.text.now in
    after_special_boundary c.args.stop c.args.after_backslash c.args.text.now c.place_in-place.result c.utf8.text place (omega (arith, few, place, c.if-place-text.false))

pub split_at-requires-2 : goal.split_at-requires-2
split_at-requires-2 c =
    let place : c.place_in-place.result ≡ place_of c.args.stop c.args.after_backslash c.args.text.now = c.place_in-place.ensures ∙ ap (place_of c.args.stop c.args.after_backslash) c.as_bytes.ensures.value in
    let few = place_within c.args.stop c.args.after_backslash c.args.text.now in
    rw (c.split_at.ensures.front) (special_boundary c.args.stop c.args.after_backslash c.args.text.now c.place_in-place.result place (omega (arith, few, place, c.if-place-text.false)))

pub returns-clause-cases : goal.returns-clause-cases
returns-clause-cases c =
    let place : c.place_in-place.result ≡ place_of c.args.stop c.args.after_backslash c.args.text.now = c.place_in-place.ensures ∙ ap (place_of c.args.stop c.args.after_backslash) c.as_bytes.ensures.value in
    let few = place_within c.args.stop c.args.after_backslash c.args.text.now in
    rw (c.split_at-2.ensures.front, c.split_at-2.ensures.back, c.split_at.ensures.front, c.split_at.ensures.back) (escaped_here c.args.stop c.args.after_backslash c.args.text.now c.place_in-place.result place (omega (arith, few, place, c.if-place-text.false)))

pub overflow_add-place : goal.overflow_add-place
overflow_add-place c =
    let place : c.place_in-place.result ≡ place_of c.args.stop c.args.after_backslash c.args.text.now = c.place_in-place.ensures ∙ ap (place_of c.args.stop c.args.after_backslash) c.as_bytes.ensures.value in
    let few = place_within c.args.stop c.args.after_backslash c.args.text.now in
    let inside : c.place_in-place.result < length c.args.text.now = omega (arith, few, place, c.if-place-text.false) in
    search (rules, inside)

pub returns-clause-text : goal.returns-clause-text
returns-clause-text c =
    let place : c.place_in-place.result ≡ place_of c.args.stop c.args.after_backslash c.args.text.now = c.place_in-place.ensures ∙ ap (place_of c.args.stop c.args.after_backslash) c.as_bytes.ensures.value in
    let few = place_within c.args.stop c.args.after_backslash c.args.text.now in
    rw (c.split_at.ensures.back) (IsUtf8-drop c.args.text.now (c.place_in-place.result + 1) c.utf8.text (after_special_boundary c.args.stop c.args.after_backslash c.args.text.now c.place_in-place.result c.utf8.text place (omega (arith, few, place, c.if-place-text.false))))
