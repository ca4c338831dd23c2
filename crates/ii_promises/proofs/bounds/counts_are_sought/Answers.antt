use Rattle.std.proofs.Common.{ap, ◌∙◌}
use Rattle.ii_docset.specs.Cursor.{doc_at}
use Rattle.ii_reader.specs.Bounds.{AllowsFreq}
use Rattle.ii_promises.proofs.BoundLaws.{first_sought}
use Rattle.ii_promises.proofs.BlockLaws.{each_once, only_allowed}
use Rattle.ii_promises.proofs.bounds.counts_are_sought.Goals as goal

pub returns-clause-first : goal.returns-clause-first
returns-clause-first c = c.seek_with_freq.ensures.doc ∙ ap doc_at c.seek_with_freq.ensures.rest ∙ first_sought c.args.target c.args.least c.args.cursor.now.rest

pub returns-clause-each_docs : goal.returns-clause-each_docs
returns-clause-each_docs c =
    let old = c.args.cursor.now in
    let new = c.seek_with_freq.new.self in
    each_once old.block new.block old.doc_blocks new.doc_blocks c.seek_with_freq.ensures.work.doc_blocks

pub returns-clause-each_counts : goal.returns-clause-each_counts
returns-clause-each_counts c =
    let old = c.args.cursor.now in
    let new = c.seek_with_freq.new.self in
    each_once old.block new.block old.freq_blocks new.freq_blocks c.seek_with_freq.ensures.work.freq_blocks

pub returns-clause-only_docs : goal.returns-clause-only_docs
returns-clause-only_docs c =
    let old = c.args.cursor.now in
    let new = c.seek_with_freq.new.self in
    only_allowed (AllowsFreq c.args.least old.bounds) old.block new.block old.doc_blocks new.doc_blocks c.seek_with_freq.ensures.doc_blocks

pub returns-clause-only_counts : goal.returns-clause-only_counts
returns-clause-only_counts c =
    let old = c.args.cursor.now in
    let new = c.seek_with_freq.new.self in
    only_allowed (AllowsFreq c.args.least old.bounds) old.block new.block old.freq_blocks new.freq_blocks c.seek_with_freq.ensures.freq_blocks
