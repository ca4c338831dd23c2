use Rattle.std.proofs.Common.{append_assoc}
use Rattle.nequllpa_searching.specs.ShareTexts.{count_members}
use Rattle.nequllpa_searching.proofs.share_rows.push_count_members.Goals as goal

pub returns : goal.returns
unfolding count_members
returns c = rw (c.in_ok-write-3.ensures.bytes, c.in_ok-write-2.ensures.bytes, c.in_ok-write.ensures.bytes, c.id_to_fieldnorm-norm.ensures) (simp append_assoc)
