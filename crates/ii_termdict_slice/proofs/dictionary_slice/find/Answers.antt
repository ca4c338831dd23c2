use Rattle.std.proofs.Common.{◌∙◌, ap, arith, sym}
use Rattle.ii_termdict.proofs.SearchLemmas.{above_less, below_greater, found_equal, none_equal}
use Rattle.ii_termdict.specs.Dictionary.{key_of}
use Rattle.ii_termdict_slice.specs.Slices.{ends_in, from_keys}
use Rattle.ii_termdict_slice.proofs.ReadingLemmas.{reads_err, reads_ok}
use Rattle.ii_termdict_slice.proofs.dictionary_slice.find.Goals as goal

pub returns-in-Err-clause-reads : goal.returns-in-Err-clause-reads
returns-in-Err-clause-reads g c = reads_err (rw c.loop-low.invariant.same at c.in-Err.ensures.reads) (λ bs known parts. parts)

pub returns-in-Equal-clause-reads : goal.returns-in-Equal-clause-reads
returns-in-Equal-clause-reads g c =
    let middle = c.next-ord.result in
    reads_ok
    (λ bs known parts. (
      omega (arith, c.loop-low-test.true, c.loop-low.invariant.within),
      found_equal c.args.key.now (key_of (ends_in bs) (from_keys c.args.num_terms bs) middle) (sym (c.in-Ok.ensures.reads.exact bs (ap g.H.FileHandle.bytes c.loop-low.invariant.same ∙ known) parts) ∙ c.in-Equal.is),
    ))

pub loop-low-preserved-in-Less : goal.loop-low-preserved-in-Less
loop-low-preserved-in-Less g c =
    let known = c.loop-low.invariant in
    let n = c.args.num_terms in
    record {
      order = omega arith;
      within = omega (arith, c.loop-low-test.true, known.within);
      same = c.compare_key.ensures.file ∙ known.same;
      below = λ bs here parts j h. known.below bs (ap g.H.FileHandle.bytes (sym c.compare_key.ensures.file) ∙ here) parts j h;
      above = λ bs here parts j h w.
          above_less n (ends_in bs) (from_keys n bs) c.args.key.now c.next-ord.result j parts.opened.ascend
          (sym (c.in-Ok.ensures.reads.exact bs (ap g.H.FileHandle.bytes (sym c.compare_key.ensures.file) ∙ here) parts) ∙ c.in-Less.is) h w;
    }

pub loop-low-preserved : goal.loop-low-preserved
loop-low-preserved g c =
    let known = c.loop-low.invariant in
    let n = c.args.num_terms in
    record {
      order = omega (arith, c.loop-low-test.true);
      within = known.within;
      same = c.compare_key.ensures.file ∙ known.same;
      below = λ bs here parts j h.
          below_greater n (ends_in bs) (from_keys n bs) c.args.key.now c.next-ord.result j parts.opened.ascend (omega (arith, c.loop-low-test.true, known.within))
          (sym (c.in-Ok.ensures.reads.exact bs (ap g.H.FileHandle.bytes (sym c.compare_key.ensures.file) ∙ here) parts) ∙ c.in-Greater.is) h;
      above = λ bs here parts j h w. known.above bs (ap g.H.FileHandle.bytes (sym c.compare_key.ensures.file) ∙ here) parts j h w;
    }

pub returns-clause-reads : goal.returns-clause-reads
returns-clause-reads g c =
    let inv = c.loop-low.invariant in
    let n = c.args.num_terms in
    reads_ok
    (λ bs known parts.
    let here = ap g.H.FileHandle.bytes inv.same ∙ known in
    none_equal n c.loop-low.low (ends_in bs) (from_keys n bs) c.args.key.now (inv.below bs here parts) (λ j above within. inv.above bs here parts j (omega (arith, above, c.loop-low-test.false)) within))
