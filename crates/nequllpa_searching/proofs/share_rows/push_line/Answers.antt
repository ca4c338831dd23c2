use Rattle.std.proofs.Common.{append_assoc}
use Rattle.nequllpa_searching.proofs.share_rows.push_line.Goals as goal

pub returns-clause-text : goal.returns-clause-text
returns-clause-text c =
    rw (c.in_ok-push_str-3.ensures.bytes, c.in_ok-push_part.ensures, c.in_ok-write.ensures.bytes, c.in_ok-push_weight.ensures, c.in_ok-push_str-2.ensures.bytes, c.in_ok-push_score.ensures, c.in_ok-push_str.ensures.bytes, c.id_to_fieldnorm-norm.ensures)
    (simp append_assoc)
