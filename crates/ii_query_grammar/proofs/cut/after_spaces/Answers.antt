use Rattle.ii_query_grammar.proofs.CutLemmas.{space_boundary}
use Rattle.ii_query_grammar.proofs.cut.after_spaces.Goals as goal

pub split_at-requires : goal.split_at-requires
split_at-requires c = rw (c.spaces_len.ensures, c.as_bytes.ensures.value) (space_boundary c.args.text.now c.utf8.text)
