use Rattle.std.proofs.Common.{◌∙◌, sym}
use Rattle.std.proofs.lemmas.Fmt.{parse-decimal}
use Rattle.ii_documents.proofs.LinePlaceLemmas.{no_number, number_split}
use Rattle.ii_documents.proofs.line_places.last_number.Goals as goal

pub returns-in-Ok-clause-back : goal.returns-in-Ok-clause-back
returns-in-Ok-clause-back c = λ before n is below.
    let split = number_split c.args.text.now before c.rsplit_once.result c.in-Some.before c.in-Some.digits n c.rsplit_once.ensures.cases c.in-Some.is is below in
    let number = parse-decimal 64 n c.in-Some.digits.now c.parse.result below below split.1 c.parse.ensures.value.0 in
    (split.0, let told = sym c.in-Ok.is ∙ number in cc)

pub returns-in-Err-clause-back : goal.returns-in-Err-clause-back
returns-in-Err-clause-back c = λ before n is below.
    let split = number_split c.args.text.now before c.rsplit_once.result c.in-Some.before c.in-Some.digits n c.rsplit_once.ensures.cases c.in-Some.is is below in
    let number = parse-decimal 64 n c.in-Some.digits.now c.parse.result below below split.1 c.parse.ensures.value.0 in
    absurd (let told = sym c.in-Err.is ∙ number in cc)

pub returns-in-None-clause-back : goal.returns-in-None-clause-back
returns-in-None-clause-back c = λ before n is below. no_number c.args.text.now before c.rsplit_once.result n c.rsplit_once.ensures.cases c.in-None.is is
