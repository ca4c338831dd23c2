use Rattle.std.proofs.Common.{List, ap, ◌∙◌}
use Rattle.ii_base.specs.Entries.{Entry}
use Rattle.ii_docset.specs.Intersection.{has_doc}
use Rattle.ii_query.proofs.MatchLaws.{without_has}
use Rattle.ii_promises.proofs.queries.first_alone_has.Goals as goal

pub returns : goal.returns
returns c = c.has.ensures ∙ ap (λ (es : List Entry). has_doc es c.args.doc) c.new.ensures.rest ∙ without_has c.args.first.rest c.args.other.rest c.args.doc
