use Rattle.std.proofs.Common.{◌∙◌, ◌∷◌, ◌++◌, decimal}
use Rattle.ii_documents.proofs.LinePlaceLemmas.{ends_with_byte}
use Rattle.ii_documents.proofs.line_places.LinePlace.read.Goals as goal

pub returns-in_default-clause-back : goal.returns-in_default-clause-back
returns-in_default-clause-back c = λ file line byte is few small. c.in_default.ensures.back (file ++ 58 ∷ decimal line) byte (is ∙ ends_with_byte file line byte) small

pub returns-in_default-last_number-clause-back : goal.returns-in_default-last_number-clause-back
returns-in_default-last_number-clause-back c = λ file line byte is few small.
    let last = c.in-Some.ensures.back (file ++ 58 ∷ decimal line) byte (is ∙ ends_with_byte file line byte) small in
    c.in_default-last_number.ensures.back file line last.0 few

pub returns-clause-back : goal.returns-clause-back
returns-clause-back c = λ file line byte is few small.
    let last = c.in-Some.ensures.back (file ++ 58 ∷ decimal line) byte (is ∙ ends_with_byte file line byte) small in
    let before = c.in-Some-last_number.ensures.back file line last.0 few in
    (before.0, before.1, last.1)
