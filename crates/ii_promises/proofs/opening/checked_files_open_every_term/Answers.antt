use Rattle.std.proofs.Common.{rules, ◌≡◌, None, Err}
use Rattle.std.specs.List.{All}
use Rattle.std.proofs.lemmas.List.Elements.{All-map}
use Rattle.ii_reader.specs.InvertedIndexReader.{AllOpen, trusted_reader}
use Rattle.ii_promises.proofs.CheckingLaws.{field_opens, look_up_opens}
use Rattle.ii_promises.proofs.opening.checked_files_open_every_term.Goals as goal

pub returns-clause-memory : goal.returns-clause-memory
returns-clause-memory c =
    let none : c.in_ok-check.field-0 ≡ None = search rules in
    let after = rw none at c.in_ok-check.ensures.after in
    let sound = c.in_ok-check.ensures.opens.0 none in
    let all : All AllOpen c.check.new.self.readers = rw after (All-map AllOpen trusted_reader _ (λ k d within. sound k d within)) in
    let opens = field_opens c.check.new.self.readers c.field.result c.reader.result.now all c.reader.ensures in
    λ index is. look_up_opens c.reader.result.now c.args.term.now.value c.args.requested (Err c.in-Err.fault) opens c.in-Err.ensures.none c.in-Err.ensures.err
