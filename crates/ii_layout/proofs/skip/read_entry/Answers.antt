use Rattle.std.proofs.Common.{◌≡◌, take, drop, arith, refl, length-drop}
use Rattle.std.proofs.lemmas.List.{take_rest}
use Rattle.ii_io.specs.Numbers.{little_endian}
use Rattle.ii_layout.specs.SkipList.{entry_at}
use Rattle.ii_layout.proofs.SkipReaderLemmas.{number_front}
use Rattle.ii_layout.proofs.skip.read_entry.Goals as goal

pub returns-in-Basic-clause-last_doc : goal.returns-in-Basic-clause-last_doc
unfolding entry_at
returns-in-Basic-clause-last_doc c =
    let enough = rw c.in-Basic.is at c.requires in
    rw c.in-Basic.is (number_front c.read_u32-last_doc.result c.args.bytes.now c.read_u32-last_doc.ensures (omega arith))

pub returns-in-Basic-clause-info : goal.returns-in-Basic-clause-info
unfolding entry_at
returns-in-Basic-clause-info c =
    rw (c.in-Basic.is, c.decode_bitwidth-doc_num_bits.ensures.width, c.decode_bitwidth-doc_num_bits.ensures.strict_delta) refl

pub returns-in-WithFreqs-clause-last_doc : goal.returns-in-WithFreqs-clause-last_doc
unfolding entry_at
returns-in-WithFreqs-clause-last_doc c =
    let enough = rw c.in-WithFreqs.is at c.requires in
    rw c.in-WithFreqs.is (number_front c.read_u32-last_doc.result c.args.bytes.now c.read_u32-last_doc.ensures (omega arith))

pub returns-in-WithFreqs-clause-info : goal.returns-in-WithFreqs-clause-info
unfolding entry_at
returns-in-WithFreqs-clause-info c =
    rw (c.in-WithFreqs.is, c.decode_bitwidth-doc_num_bits.ensures.width, c.decode_bitwidth-doc_num_bits.ensures.strict_delta, c.decode_block_wand_max_tf.ensures) refl

pub returns-in-WithFreqsAndPositions-clause-last_doc : goal.returns-in-WithFreqsAndPositions-clause-last_doc
unfolding entry_at
returns-in-WithFreqsAndPositions-clause-last_doc c =
    let enough = rw c.in-WithFreqsAndPositions.is at c.requires in
    rw c.in-WithFreqsAndPositions.is (number_front c.read_u32-last_doc.result c.args.bytes.now c.read_u32-last_doc.ensures (omega arith))

pub returns-in-WithFreqsAndPositions-clause-info : goal.returns-in-WithFreqsAndPositions-clause-info
unfolding entry_at
returns-in-WithFreqsAndPositions-clause-info c =
    let enough = rw c.in-WithFreqsAndPositions.is at c.requires in
    let sum : c.read_u32.result ≡ little_endian (take 4 (drop 6 c.args.bytes.now)) =
    number_front c.read_u32.result (drop 6 c.args.bytes.now) (rw take_rest at c.read_u32.ensures) (omega (arith, length-drop 6 c.args.bytes.now))
    in
    rw (c.in-WithFreqsAndPositions.is, c.decode_bitwidth-doc_num_bits.ensures.width, c.decode_bitwidth-doc_num_bits.ensures.strict_delta, c.decode_block_wand_max_tf-in-WithFreqsAndPositions.ensures, sum) refl
