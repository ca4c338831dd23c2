use Rattle.std.proofs.Common.{◌≡◌, length}
use Rattle.iiq.specs.Commands.{documents_of_words}
use Rattle.iiq.proofs.DocumentLemmas.{documents_from, after}
use Rattle.iiq.proofs.commands.documents.Given as goal

abbrev pub invariant-loop-word : goal.invariant-loop-word
invariant-loop-word l = documents_of_words l.fn.words ≡ after l.docs.items (documents_from l.least l.words)

abbrev pub decreases-loop-word : goal.decreases-loop-word
decreases-loop-word l = length l.words
