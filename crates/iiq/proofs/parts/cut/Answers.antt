use Rattle.std.proofs.lemmas.List.{take_rest}
use Rattle.iiq.proofs.WordLemmas.{parts_at, parts_whole, utf8_behind}
use Rattle.iiq.proofs.parts.cut.Goals as goal

pub returns-in-Some : goal.returns-in-Some
returns-in-Some c =
    rw take_rest (record {
      parts = parts_at c.args.separator c.args.text.now c.in-Some.i c.in-Some.ensures;
      utf8 = utf8_behind c.args.separator c.args.text.now c.in-Some.i c.in-Some.ensures;
    })

pub returns-in-None : goal.returns-in-None
returns-in-None c = record { parts = parts_whole c.args.separator c.args.text.now c.in-None.ensures; utf8 = λ _ _. tt }
