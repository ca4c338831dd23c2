use Rattle.std.proofs.Common.{arith}
use Rattle.ii_search.specs.TopByCount.{AllowsTop}
use Rattle.ii_promises.proofs.BlockLaws.{each_once, only_allowed}
use Rattle.ii_promises.proofs.TopDecodes.{few_needed, not_hopeless}
use Rattle.ii_promises.proofs.searching.hopeless_blocks_are_not_decoded.Goals as goal

pub returns : goal.returns
returns c =
    let few = few_needed c.args.n c.args.cursor.now c.top_by_count.new.cursor.block in
    let work = c.top_by_count.ensures.work in
    let decodes = c.top_by_count.ensures.decodes in
    let old = c.args.cursor.now in
    let new = c.top_by_count.new.cursor in
    record {
      each_docs = each_once old.block new.block old.doc_blocks new.doc_blocks work.doc_blocks;
      each_counts = each_once old.block new.block old.freq_blocks new.freq_blocks work.freq_blocks;
      hopeful_docs = λ i later inside. not_hopeless c.args.n old _ (only_allowed (AllowsTop c.args.n old) old.block new.block old.doc_blocks new.doc_blocks decodes.doc_blocks i later inside);
      hopeful_counts = λ i later inside. not_hopeless c.args.n old _ (only_allowed (AllowsTop c.args.n old) old.block new.block old.freq_blocks new.freq_blocks decodes.freq_blocks i later inside);
      once = work.doc_decodes;
      docs = omega (arith, decodes.docs, few);
      freqs = omega (arith, decodes.freqs, few);
    }
