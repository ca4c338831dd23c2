use Rattle.std.proofs.Common.{false}
use Rattle.ii_query_grammar.proofs.CutLemmas.{place_boundary}
use Rattle.ii_query_grammar.proofs.cut.cut_at.Goals as goal

pub split_at-requires : goal.split_at-requires
split_at-requires c = rw (c.place_in.ensures, c.as_bytes.ensures.value) (place_boundary c.args.stop false c.args.text.now)
