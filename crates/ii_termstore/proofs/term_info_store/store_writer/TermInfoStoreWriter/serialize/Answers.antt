use Rattle.std.proofs.Common.{◌∙◌, ◌*◌, ◌/◌, [], length, length-drop, ap, sym, refl, arith}
use Rattle.std.proofs.lemmas.List.{append-nil}
use Rattle.ii_termstore.specs.TermStore.{term_store}
use Rattle.ii_termstore.specs.Written.{written_store}
use Rattle.ii_termstore.proofs.GatherLemmas.{gathered_written, gathered_storable}
use Rattle.ii_termstore.proofs.term_info_store.store_writer.TermInfoStoreWriter.serialize.Goals as goal

pub returns-clause-written : goal.returns-clause-written
returns-clause-written g c =
    let before = c.self.invariant c.if-self.false in
    let whole = gathered_written c.self.inside.given.infos (record {
      num_terms = c.self.inside.blocks.num_terms;
      block_metas = c.self.inside.blocks.block_metas.items;
      block_bits = c.self.inside.blocks.block_bits.items;
      open_block = c.self.inside.blocks.open_block.items;
    }) before.0 in
    rw (← c.self.view_is) (record { writes = λ e. rw (← whole) c.put_store-written.ensures.written; refused = λ is. absurd (cc) })

pub returns-clause-holds : goal.returns-clause-holds
returns-clause-holds g c = λ e.
    let before = c.self.invariant c.if-self.false in
    let storable = gathered_storable c.self.inside.given.infos (record {
      num_terms = c.self.inside.blocks.num_terms;
      block_metas = c.self.inside.blocks.block_metas.items;
      block_bits = c.self.inside.blocks.block_bits.items;
      open_block = c.self.inside.blocks.open_block.items;
    }) before.0 before.1 c.put_store-written.ensures.small.0 c.put_store-written.ensures.small.1 in
    let holds = c.reads_store_back.ensures c.self.inside.given.infos [] storable before.1.joined in
    rw (← c.self.view_is) (ap term_store (sym (append-nil (written_store c.self.inside.given.infos))) ∙ holds)

pub invariant_of-self : goal.invariant_of-self
invariant_of-self g c = λ e. c.self.invariant c.if-self.false

pub returns-clause-infos : goal.returns-clause-infos
returns-clause-infos g c = rw (← c.self.view_is) refl

pub returns-then-self-clause-holds : goal.returns-then-self-clause-holds
returns-then-self-clause-holds g c = rw (← c.self.view_is) (λ is_open. absurd (cc))

pub returns-then-self-clause-written : goal.returns-then-self-clause-written
returns-then-self-clause-written g c = rw (← c.self.view_is) (record { writes = λ is_open. absurd (cc); refused = λ is. (refl, refl) })

pub put_store-written-requires-clause-few : goal.put_store-written-requires-clause-few
put_store-written-requires-clause-few g c =
    let before = c.self.invariant c.if-self.false in
    let infos = c.self.inside.given.infos in
    let left = length-drop (256 * (length infos / 256)) infos in
    rw (before.0.rest) (omega (arith, left))
