use Rattle.std.proofs.Common.{ap, ◌∙◌}
use Rattle.ii_docset.specs.Intersection.{has_doc}
use Rattle.ii_reader.specs.SegmentPostings.{SegmentPostingsState}
use Rattle.ii_query.specs.Combined.{either}
use Rattle.ii_query.proofs.MatchLaws as law
use Rattle.ii_promises.proofs.queries.either_has.Goals as goal

pub returns : goal.returns
returns c =
    c.has.ensures
    ∙ ap (λ (s : SegmentPostingsState). has_doc (either s.rest c.new.result.other.rest) c.args.doc) c.new.ensures.first
    ∙ ap (λ (s : SegmentPostingsState). has_doc (either c.args.first.rest s.rest) c.args.doc) c.new.ensures.other
    ∙ law.either_has c.args.first.rest c.args.other.rest c.args.doc
