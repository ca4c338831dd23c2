use Rattle.std.proofs.Common.{◌∙◌, ◌++◌, List, ap, length, cond, sym, Bool, ◌≡◌, true, ◌∷◌, []}
use Rattle.std.specs.Char.{is_ascii_alphanumeric}
use Rattle.std.specs.List.{list_any}
use Rattle.ii_base.specs.Parts.{Part, part_words}
use Rattle.ii_tokenizers.proofs.PartLemmas.{ok_then}
use Rattle.ii_tokenizers.proofs.RunLemmas.{spoken_one}
use Rattle.ii_tokenizers.proofs.ascii_words.add_run.Goals as goal

pub returns-clause-ok : goal.returns-clause-ok
returns-clause-ok c =
    let run = c.args.run.now in
    let has : list_any is_ascii_alphanumeric run ≡ true = ap (list_any is_ascii_alphanumeric) (sym c.as_bytes.ensures.value) ∙ sym c.has_letter_or_digit.ensures ∙ c.if-not-has_letter_or_digit.false in
    let parts = spoken_one c.args.start run c.requires.ascii has ∙ ap (λ (b : Bool). cond {A = List Part} b (record { offset = c.args.start; characters = run } ∷ []) []) (sym has) in
    ok_then c.add_part.result (λ ok. ok ∙ ap (λ (ps : List Part). c.args.tokens.now ++ part_words (length c.args.tokens.now) ps) parts) c.add_part.ensures.ok
