use Rattle.std.proofs.Common.{◌≡◌, ◌++◌, flat_map, map, take}
use Rattle.std.specs.String.{string_bytes}
use Rattle.ii_ranking.specs.Shares.{share_of}
use Rattle.nequllpa_searching.specs.ShareTexts.{share_line}
use Rattle.nequllpa_searching.proofs.share_rows.push_shares.Given as goal

abbrev pub invariant-loop-share : goal.invariant-loop-share
invariant-loop-share l = string_bytes l.text ≡ string_bytes l.initial.text ++ flat_map (share_line l.schema) (map share_of (take l.share-index l.shares))
