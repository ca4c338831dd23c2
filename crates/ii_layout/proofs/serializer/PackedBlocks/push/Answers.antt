use Rattle.std.proofs.Common.{ap, rules}
use Rattle.ii_layout.specs.SkipSerializer.{SkipSerializerState}
use Rattle.ii_layout.proofs.PackingLemmas.{next_block, packed_by}
use Rattle.ii_layout.proofs.serializer.PackedBlocks.push.Goals as goal

pub write_block-packed-requires : goal.write_block-packed-requires
write_block-packed-requires c =
    record {
      docs = next_block _ _ _ _ _ c.self.invariant.0 c.requires.full (rw (← c.self.view_is) at c.requires.ascending);
      covered = rw (← c.self.view_is) at c.requires.covered;
      freqs = search rules;
      «open» = c.self.invariant.1;
    }

pub invariant_of-self : goal.invariant_of-self
invariant_of-self c =
    let bytes = ap (λ (s : SkipSerializerState). s.bytes) c.in-Ok.ensures.skip in (
      packed_by c.self.inside.bounds c.self.inside.skip_info c.self.inside.docs.term c.args.block.now _ _ _ c.self.invariant.0 c.requires.full c.requires.freqs.0 c.and-self-inside.ensures
          (λ j. record { last_doc = c.last_doc-self-inside.ensures j; skip = bytes j; postings = c.in-Ok.ensures.postings j }),
      ap (λ (s : SkipSerializerState). s.closed) c.in-Ok.ensures.skip,
    )
