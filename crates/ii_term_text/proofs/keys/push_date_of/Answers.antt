use Rattle.std.proofs.Common.{rules, ◌≡◌, ◌<◌, ◌^◌, ℕ, Option, ap, option_map, sym}
use Rattle.ii_dates.specs.Dates.{date_text}
use Rattle.ii_term_text.specs.KeyTexts.{text_or_bytes, unflipped}
use Rattle.ii_term_text.proofs.KeyLemmas.{unflipped_again}
use Rattle.ii_term_text.proofs.keys.push_date_of.Goals as goal

pub returns-in-Some : goal.returns-in-Some
returns-in-Some c =
    let low : c.in-Some.number < 2 ^ 64 = search rules in
    let again = unflipped_again c.in-Some.number low in
    let same : c.signed-nanoseconds.result ≡ unflipped c.in-Some.number = c.signed-nanoseconds.ensures (unflipped c.in-Some.number) again.0 again.1 in
    let text = ap (λ (n : Option ℕ). text_or_bytes c.args.key.now (option_map (λ n. date_text (unflipped n)) n)) (sym c.in-Some.ensures) in
    rw text (search (rules, same))
