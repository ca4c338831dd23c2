use Rattle.ii_io.proofs.WriteSteps.{writes_both}
use Rattle.ii_termdict.proofs.writer.put_dictionary.Goals as goal

pub returns-clause-written : goal.returns-clause-written
returns-clause-written g c =
    writes_both c.args.writer.now c.put_keys-keys.new.writer c.serialize.new.writer _ _ c.put_keys-keys.result c.serialize.result c.if-is_err.ensures.value c.put_keys-keys.ensures (c.serialize.ensures.written.writes c.requires)
