use Rattle.std.proofs.Common.{◌<◌, Bool, ◌∙◌, ap, arith, drop, false, not, sym}
use Rattle.std.specs.Prelude.{◌-◌, ◌+◌, slice_index_or}
use Rattle.ii_stemmer.specs.Letters.{vowels_after}
use Rattle.ii_stemmer.proofs.LetterLemmas.{one_later}
use Rattle.ii_stemmer.proofs.letters.is_vowel_at.Goals as goal

pub loop-at-preserved : goal.loop-at-preserved
loop-at-preserved c =
    let before : c.loop-at.at < c.args.place = omega (arith, c.if-at-place.false, c.loop-at.invariant.1) in
    let same = ap (λ (vowel : Bool). slice_index_or (vowels_after (not vowel) (drop (c.loop-at.at + 1) c.args.word.now)) (c.args.place - (c.loop-at.at + 1)) false) c.is_vowel-vowel.ensures in (
      c.loop-at.invariant.0 ∙ one_later c.args.word.now c.loop-at.at c.args.place c.loop-at.after_consonant c.loop-at-test.true before ∙ sym same,
      omega (arith, before),
    )
