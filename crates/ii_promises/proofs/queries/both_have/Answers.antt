use Rattle.std.proofs.Common.{List, ap, ◌∙◌}
use Rattle.ii_base.specs.Entries.{Entry}
use Rattle.ii_docset.specs.Intersection.{has_doc}
use Rattle.ii_query.proofs.MatchLaws.{common_has}
use Rattle.ii_promises.proofs.queries.both_have.Goals as goal

pub returns : goal.returns
returns c = c.has.ensures ∙ ap (λ (es : List Entry). has_doc es c.args.doc) c.new.ensures.rest ∙ common_has c.args.first.rest c.args.other.rest c.args.doc
