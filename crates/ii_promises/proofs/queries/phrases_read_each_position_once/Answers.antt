use Rattle.std.proofs.Common.{List, [], ◌∷◌, ◌++◌, ◌∙◌, ap}
use Rattle.ii_query.specs.Phrase.{PhraseTermState}
use Rattle.ii_reader.specs.SegmentPostings.{SegmentPostingsState}
use Rattle.ii_promises.proofs.ReadsLaws.{both_read_once}
use Rattle.ii_promises.proofs.queries.phrases_read_each_position_once.Goals as goal

pub returns-clause-reads : goal.returns-clause-reads
returns-clause-reads c =
    let others_is = c.in_ok-push.ensures.items ∙ ap (λ (ps : List (PhraseTermState SegmentPostingsState)). ps ++ c.new.result ∷ []) c.new-others.ensures.items in
    both_read_once c.args.first c.args.second c.new.result c.push.new.self.items c.new-2.result.terms others_is c.new.ensures.unread c.new.ensures.rest c.new.ensures.cursor c.new-2.ensures.reads
