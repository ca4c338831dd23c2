use Rattle.std.proofs.Common.{rules, ◌<◌, length}
use Rattle.ii_reader.proofs.KnownLemmas.{trusted_next}
use Rattle.ii_reader.proofs.index_files.trust_all.Goals as goal

pub loop-reader-preserved : goal.loop-reader-preserved
loop-reader-preserved c =
    let l = c.loop-reader in
    let low : l.reader-index < length c.args.readers.now = search rules in
    trusted_next l.reader-index c.args.readers.now l.reader-items _ c.trust.new.self low l.invariant c.trust.ensures
