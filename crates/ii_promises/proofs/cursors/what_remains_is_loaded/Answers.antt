use Rattle.ii_base.specs.Entries.{Entry}
use Rattle.ii_promises.proofs.LoadedLaws.{each_is_loaded}
use Rattle.ii_promises.proofs.cursors.what_remains_is_loaded.Goals as goal

pub returns-clause-docs : goal.returns-clause-docs
returns-clause-docs c = each_is_loaded (λ (e : Entry). e.doc) c.args.cursor.now.rest c.load.result c.load.ensures.ok

pub returns-clause-counts : goal.returns-clause-counts
returns-clause-counts c = each_is_loaded (λ (e : Entry). e.term_freq) c.args.cursor.now.rest c.load.result c.load.ensures.ok

pub returns-clause-positions : goal.returns-clause-positions
returns-clause-positions c = each_is_loaded (λ (e : Entry). e.positions) c.args.cursor.now.rest c.load.result c.load.ensures.ok
