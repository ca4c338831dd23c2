use Rattle.std.proofs.Common.{◌∙◌, sym}
use Rattle.ii_termdict.specs.TermDictionaryWriter.{keys_between}
use Rattle.ii_io.proofs.WriteSteps.{on_ok_went}
use Rattle.ii_termdict.proofs.WriterLemmas.{still_has_keys, keys_added, key_added}
use Rattle.ii_termdict.proofs.writer.TermDictionaryWriter.insert_key.Goals as goal

pub invariant_of-self : goal.invariant_of-self
invariant_of-self c =
    let put = c.add_key-added.ensures in
    let before = c.self.invariant.1 c.if-self.false in (
      still_has_keys c.self.inside.key_bytes.items c.self.inside.ends.items c.add_key-added.new.key_bytes.items c.add_key-added.new.ends.items c.args.key.now c.add_key-added.result c.self.invariant.0 put.bytes put.ends put.few put.err,
      λ is_open.
          let went = sym is_open ∙ c.is_err-self-inside.ensures.value in
          let keys = on_ok_went c.add_key-added.result went (keys_added c.self.inside.key_bytes.items c.self.inside.ends.items c.add_key-added.new.key_bytes.items c.add_key-added.new.ends.items c.args.key.now c.add_key-added.result c.self.invariant.0 put.bytes put.ends put.few) in
          let ascending = rw (← c.self.view_is) at c.requires.ascending in
          (before.0, rw keys (ascending c.if-self.false)),
    )

pub returns-clause-ok : goal.returns-clause-ok
returns-clause-ok c =
    let put = c.add_key-added.ensures in
    let keys = keys_added c.self.inside.key_bytes.items c.self.inside.ends.items c.add_key-added.new.key_bytes.items c.add_key-added.new.ends.items c.args.key.now c.add_key-added.result c.self.invariant.0 put.bytes put.ends put.few in
    rw (← c.self.view_is)
    (key_added (keys_between 0 c.self.inside.ends.items c.self.inside.key_bytes.items) (keys_between 0 c.add_key-added.new.ends.items c.add_key-added.new.key_bytes.items) c.args.key.now c.self.inside.term_infos.infos c.is_err-self-inside.result
    c.self.inside.is_closed c.add_key-added.result keys c.is_err-self-inside.ensures.value c.if-self.false)
