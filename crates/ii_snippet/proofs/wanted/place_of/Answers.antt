use Rattle.std.proofs.Common.{◌≡◌, ◌∙◌, ◌<◌, ◌≤◌, ℕ, ap, get_or, length, map, subst, sym}
use Rattle.std.proofs.Math.ListN.{get_or-map}
use Rattle.std.proofs.lemmas.List.{length-map}
use Rattle.ii_snippet.specs.Wanted.{is_word, wanted_of}
use Rattle.ii_snippet.proofs.PlaceLemmas.{found_here, found_later, found_nowhere}
use Rattle.ii_snippet.proofs.wanted.place_of.Goals as goal

pub returns-then-has : goal.returns-then-has
returns-then-has c =
    let word = wanted_of c.index-words-place.result in
    let same : word ≡ get_or (map wanted_of c.args.words.now) c.loop-place.place word = ap wanted_of c.index-words-place.is ∙ sym (get_or-map wanted_of c.args.words.now c.loop-place.place c.index-words-place.result) in
    let within : c.loop-place.place < length (map wanted_of c.args.words.now) = subst (λ (n : ℕ). c.loop-place.place < n) (sym (length-map c.args.words.now wanted_of)) c.loop-place-test.true in
    found_here (is_word c.args.field c.args.key.now) (map wanted_of c.args.words.now) c.loop-place.place word c.loop-place.invariant within (ap (is_word c.args.field c.args.key.now) (sym same) ∙ sym c.has.ensures ∙ c.if-has.true)

pub loop-place-preserved : goal.loop-place-preserved
loop-place-preserved c =
    let word = wanted_of c.index-words-place.result in
    let same : word ≡ get_or (map wanted_of c.args.words.now) c.loop-place.place word = ap wanted_of c.index-words-place.is ∙ sym (get_or-map wanted_of c.args.words.now c.loop-place.place c.index-words-place.result) in
    let within : c.loop-place.place < length (map wanted_of c.args.words.now) = subst (λ (n : ℕ). c.loop-place.place < n) (sym (length-map c.args.words.now wanted_of)) c.loop-place-test.true in
    found_later (is_word c.args.field c.args.key.now) (map wanted_of c.args.words.now) c.loop-place.place word c.loop-place.invariant within (ap (is_word c.args.field c.args.key.now) (sym same) ∙ sym c.has.ensures ∙ c.if-has.false)

pub returns : goal.returns
returns c = found_nowhere (is_word c.args.field c.args.key.now) (map wanted_of c.args.words.now) c.loop-place.place c.loop-place.invariant (subst (λ (n : ℕ). n ≤ c.loop-place.place) (sym (length-map c.args.words.now wanted_of)) c.loop-place-test.false)
