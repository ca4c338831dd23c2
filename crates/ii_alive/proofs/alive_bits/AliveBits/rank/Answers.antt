use Rattle.std.proofs.Common.{Bool, List, take, arith, ap, sym, ◌∙◌}
use Rattle.ii_alive.specs.Alive.{rank}
use Rattle.ii_alive.specs.AliveBits.{word_bits}
use Rattle.ii_alive.proofs.StateLemmas.{block_of_doc, doc_before, in_block_le, rank_as_read, rank_of_doc_le, rank_of_end, word_of_doc}
use Rattle.ii_alive.proofs.alive_bits.AliveBits.rank.Goals as goal

pub returns-then-doc-self : goal.returns-then-doc-self
returns-then-doc-self c =
    let s = c.self.inside in
    c.self.invariant.total
    ∙ sym (rank_of_end s.num_docs s.words.items c.self.invariant.flags)
    ∙ ap (rank (take s.num_docs (word_bits s.words.items))) (sym c.if-doc-self.true)
    ∙ ap (λ (v : List Bool). rank v c.args.doc) c.self.view_is

pub index-requires : goal.index-requires
index-requires c =
    let s = c.self.inside in
    let within = doc_before s.num_docs s.words.items c.self.invariant.flags c.args.self.now c.args.doc c.self.view_is c.requires c.if-doc-self.false in
    omega (arith, s.words.ok.0, word_of_doc s.num_docs s.words.items c.self.invariant.flags c.args.doc within)

pub slice_bounds-ones_in-end : goal.slice_bounds-ones_in-end
slice_bounds-ones_in-end c =
    let s = c.self.inside in
    let within = doc_before s.num_docs s.words.items c.self.invariant.flags c.args.self.now c.args.doc c.self.view_is c.requires c.if-doc-self.false in
    omega (arith, s.words.ok.0, c.deref.ensures.len, word_of_doc s.num_docs s.words.items c.self.invariant.flags c.args.doc within)

pub ones_in-in_block-requires : goal.ones_in-in_block-requires
ones_in-in_block-requires c =
    let s = c.self.inside in
    let within = doc_before s.num_docs s.words.items c.self.invariant.flags c.args.self.now c.args.doc c.self.view_is c.requires c.if-doc-self.false in
    rw c.deref.ensures.value (omega (arith, in_block_le s.num_docs s.words.items c.self.invariant.flags c.args.doc within, c.ranges.doc.fits))

pub index-requires-2 : goal.index-requires-2
index-requires-2 c =
    let s = c.self.inside in
    let within = doc_before s.num_docs s.words.items c.self.invariant.flags c.args.self.now c.args.doc c.self.view_is c.requires c.if-doc-self.false in
    omega (arith, s.living_before.ok.0, block_of_doc s.num_docs s.words.items c.self.invariant.flags s.living_before.items c.args.doc c.self.invariant.blocks within)

pub overflow_add-result : goal.overflow_add-result
overflow_add-result c =
    let s = c.self.inside in
    let doc = c.args.doc in
    let within = doc_before s.num_docs s.words.items c.self.invariant.flags c.args.self.now doc c.self.view_is c.requires c.if-doc-self.false in
    let block = rw c.deref.ensures.value at c.ones_in-in_block.ensures in
    let read = rank_as_read s.num_docs s.words.items c.self.invariant.flags s.living_before.items doc c.index-2.result.now c.ones_in-in_block.result c.index.result.now c.self.invariant.blocks within c.index-2.ensures c.index.ensures block in
    omega (arith, read, rank_of_doc_le s.num_docs s.words.items c.self.invariant.flags doc (omega arith), c.ranges.doc.fits)

pub overflow_add-result-2 : goal.overflow_add-result-2
overflow_add-result-2 c =
    let s = c.self.inside in
    let doc = c.args.doc in
    let within = doc_before s.num_docs s.words.items c.self.invariant.flags c.args.self.now doc c.self.view_is c.requires c.if-doc-self.false in
    let block = rw c.deref.ensures.value at c.ones_in-in_block.ensures in
    let read = rank_as_read s.num_docs s.words.items c.self.invariant.flags s.living_before.items doc c.index-2.result.now c.ones_in-in_block.result c.index.result.now c.self.invariant.blocks within c.index-2.ensures c.index.ensures block in
    omega (arith, read, rank_of_doc_le s.num_docs s.words.items c.self.invariant.flags doc (omega arith), c.ranges.doc.fits)

pub returns : goal.returns
returns c =
    let s = c.self.inside in
    let doc = c.args.doc in
    let within = doc_before s.num_docs s.words.items c.self.invariant.flags c.args.self.now doc c.self.view_is c.requires c.if-doc-self.false in
    let block = rw c.deref.ensures.value at c.ones_in-in_block.ensures in
    rank_as_read s.num_docs s.words.items c.self.invariant.flags s.living_before.items doc c.index-2.result.now c.ones_in-in_block.result c.index.result.now c.self.invariant.blocks within c.index-2.ensures c.index.ensures block
    ∙ ap (λ (v : List Bool). rank v doc) c.self.view_is
