use Rattle.std.proofs.Common.{◌≡◌, ℕ}
use Rattle.std.specs.List.{Contains}
use Rattle.std.proofs.lemmas.List.Elements.{All-weaker}
use Rattle.ii_prepared_term.specs.PreparedScorers.{IsUnread}
use Rattle.ii_scorer.specs.BlockLists.{BlockList}
use Rattle.ii_folder_promises.proofs.DecodingLaws.{only_first}
use Rattle.ii_folder_promises.proofs.scorers.nothing_is_decoded_at_the_start.Goals as goal

pub returns-in-Ok-clause-documents : goal.returns-in-Ok-clause-documents
returns-in-Ok-clause-documents c = All-weaker IsUnread (λ (list : BlockList). (block : ℕ) → Contains list.doc_blocks block → block ≡ 0) (λ list unread. only_first list.doc_blocks unread.doc_blocks) c.in-Ok.scorer.lists c.in-Ok.ensures.lists.unread

pub returns-in-Ok-clause-frequencies : goal.returns-in-Ok-clause-frequencies
returns-in-Ok-clause-frequencies c = All-weaker IsUnread (λ (list : BlockList). (block : ℕ) → Contains list.freq_blocks block → block ≡ 0) (λ list unread. only_first list.freq_blocks unread.freq_blocks) c.in-Ok.scorer.lists c.in-Ok.ensures.lists.unread
