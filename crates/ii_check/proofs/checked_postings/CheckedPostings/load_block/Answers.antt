use Rattle.std.proofs.Common.{drop, refl, sym, ap, ◌∙◌}
use Rattle.ii_base.specs.declared.doc_id.TheConstants.{TERMINATED}
use Rattle.ii_check.specs.Check.{freqs_in}
use Rattle.ii_check.proofs.LoadLemmas.{is_told, some_there, loads, loads_freqs, keeps_freqs, told_freqs, after_is}
use Rattle.ii_check.proofs.DecodedBlocksLaws.{logs, logs_freqs, logs_no_freqs}
use Rattle.ii_check.proofs.checked_postings.CheckedPostings.load_block.Goals as goal

pub decode_docs-used-requires-clause-few : goal.decode_docs-used-requires-clause-few
decode_docs-used-requires-clause-few c =
    let told = is_told c.args.self.now c.args.skip.now c.block_info-info.result c.last_doc_in_previous_block.result c.bytes_from-bytes.result.now c.body.ensures.given c.requires
    (c.bytes_from-bytes.ensures ∙ (λ j. drop (c.byte_offset.ensures j) (c.body.ensures.body j))) c.block_info-info.ensures c.last_doc_in_previous_block.ensures
    in told.few

pub decode_docs-used-requires-clause-valid : goal.decode_docs-used-requires-clause-valid
decode_docs-used-requires-clause-valid c =
    let told = is_told c.args.self.now c.args.skip.now c.block_info-info.result c.last_doc_in_previous_block.result c.bytes_from-bytes.result.now c.body.ensures.given c.requires
    (c.bytes_from-bytes.ensures ∙ (λ j. drop (c.byte_offset.ensures j) (c.body.ensures.body j))) c.block_info-info.ensures c.last_doc_in_previous_block.ensures
    in some_there _ _ told.docs

pub returns-then-not-is_read-clause-loads : goal.returns-then-not-is_read-clause-loads
returns-then-not-is_read-clause-loads c =
    let told = is_told c.args.self.now c.args.skip.now c.block_info-info.result c.last_doc_in_previous_block.result c.bytes_from-bytes.result.now c.body.ensures.given c.requires
    (c.bytes_from-bytes.ensures ∙ (λ j. drop (c.byte_offset.ensures j) (c.body.ensures.body j))) c.block_info-info.ensures c.last_doc_in_previous_block.ensures
    in
    let unread = c.body.ensures.given.read ∙ (rw (← c.self.view_is) (sym c.is_read.ensures)) ∙ c.if-not-is_read.true in
    record {
      docs_are = loads _ c.args.self.now.postings.docs told.after c.args.skip.now.block TERMINATED c.args.doc_decoder.now c.decode_docs-used.new.decoder c.decode_docs-used.ensures.holds told.docs;
      freqs_are = keeps_freqs c.args.self.now.postings.freqs c.args.skip.now.block c.args.freq_decoder.now c.args.freq_decoder.now unread refl;
    }

pub decode_freqs-requires-clause-few : goal.decode_freqs-requires-clause-few
decode_freqs-requires-clause-few c =
    let told = is_told c.args.self.now c.args.skip.now c.block_info-info.result c.last_doc_in_previous_block.result c.bytes_from-bytes.result.now c.body.ensures.given c.requires
    (c.bytes_from-bytes.ensures ∙ (λ j. drop (c.byte_offset.ensures j) (c.body.ensures.body j))) c.block_info-info.ensures c.last_doc_in_previous_block.ensures
    in told.few

pub decode_freqs-requires-clause-valid : goal.decode_freqs-requires-clause-valid
decode_freqs-requires-clause-valid c =
    let told = is_told c.args.self.now c.args.skip.now c.block_info-info.result c.last_doc_in_previous_block.result c.bytes_from-bytes.result.now c.body.ensures.given c.requires
    (c.bytes_from-bytes.ensures ∙ (λ j. drop (c.byte_offset.ensures j) (c.body.ensures.body j))) c.block_info-info.ensures c.last_doc_in_previous_block.ensures
    in
    let read = c.body.ensures.given.read ∙ (rw (← c.self.view_is) (sym c.is_read.ensures)) ∙ c.if-not-is_read.false in
    let after = c.bytes_from.ensures ∙ after_is _ _ told.after _ told.docs c.decode_docs-used.ensures.after in
    rw after (told_freqs c.args.self.now.postings.freqs c.args.skip.now.block c.block_info-info.result told.after read told.freqs)

pub returns-clause-loads : goal.returns-clause-loads
returns-clause-loads c =
    let told = is_told c.args.self.now c.args.skip.now c.block_info-info.result c.last_doc_in_previous_block.result c.bytes_from-bytes.result.now c.body.ensures.given c.requires
    (c.bytes_from-bytes.ensures ∙ (λ j. drop (c.byte_offset.ensures j) (c.body.ensures.body j))) c.block_info-info.ensures c.last_doc_in_previous_block.ensures
    in
    let read = c.body.ensures.given.read ∙ (rw (← c.self.view_is) (sym c.is_read.ensures)) ∙ c.if-not-is_read.false in
    let after = c.bytes_from.ensures ∙ after_is _ _ told.after _ told.docs c.decode_docs-used.ensures.after in
    record {
      docs_are = loads _ c.args.self.now.postings.docs told.after c.args.skip.now.block TERMINATED c.args.doc_decoder.now c.decode_docs-used.new.decoder c.decode_docs-used.ensures.holds told.docs;
      freqs_are = loads_freqs c.args.self.now.postings.freqs c.args.skip.now.block c.args.freq_decoder.now c.decode_freqs.new.decoder read
          (λ fs e.
          let counts = told.freqs fs e in
          loads _ fs counts.0 c.args.skip.now.block 1 c.args.freq_decoder.now c.decode_freqs.new.decoder c.decode_freqs.ensures (ap (freqs_in c.block_info-info.result) after ∙ counts.1));
    }

pub returns-then-not-is_read-clause-logs : goal.returns-then-not-is_read-clause-logs
returns-then-not-is_read-clause-logs c =
    let told = is_told c.args.self.now c.args.skip.now c.block_info-info.result c.last_doc_in_previous_block.result c.bytes_from-bytes.result.now c.body.ensures.given c.requires
    (c.bytes_from-bytes.ensures ∙ (λ j. drop (c.byte_offset.ensures j) (c.body.ensures.body j))) c.block_info-info.ensures c.last_doc_in_previous_block.ensures
    in
    let docs = loads _ c.args.self.now.postings.docs told.after c.args.skip.now.block TERMINATED c.args.doc_decoder.now c.decode_docs-used.new.decoder c.decode_docs-used.ensures.holds told.docs in
    let unread = c.body.ensures.given.read ∙ (rw (← c.self.view_is) (sym c.is_read.ensures)) ∙ c.if-not-is_read.true in
    record {
      docs_are = logs c.args.self.now.postings.docs c.args.skip.now.block TERMINATED c.decode_docs-used.new.decoder _ _ docs.holds c.with_block-decoded_blocks.ensures;
      freqs_are = logs_no_freqs c.args.self.now.postings.freqs c.args.skip.now.block _ _ unread refl;
    }

pub returns-clause-logs : goal.returns-clause-logs
returns-clause-logs c =
    let told = is_told c.args.self.now c.args.skip.now c.block_info-info.result c.last_doc_in_previous_block.result c.bytes_from-bytes.result.now c.body.ensures.given c.requires
    (c.bytes_from-bytes.ensures ∙ (λ j. drop (c.byte_offset.ensures j) (c.body.ensures.body j))) c.block_info-info.ensures c.last_doc_in_previous_block.ensures
    in
    let docs = loads _ c.args.self.now.postings.docs told.after c.args.skip.now.block TERMINATED c.args.doc_decoder.now c.decode_docs-used.new.decoder c.decode_docs-used.ensures.holds told.docs in
    let read = c.body.ensures.given.read ∙ (rw (← c.self.view_is) (sym c.is_read.ensures)) ∙ c.if-not-is_read.false in
    let after = c.bytes_from.ensures ∙ after_is _ _ told.after _ told.docs c.decode_docs-used.ensures.after in
    let freqs = loads_freqs c.args.self.now.postings.freqs c.args.skip.now.block c.args.freq_decoder.now c.decode_freqs.new.decoder read
    (λ fs e.
    let counts = told.freqs fs e in
    loads _ fs counts.0 c.args.skip.now.block 1 c.args.freq_decoder.now c.decode_freqs.new.decoder c.decode_freqs.ensures (ap (freqs_in c.block_info-info.result) after ∙ counts.1))
    in
    record {
      docs_are = logs c.args.self.now.postings.docs c.args.skip.now.block TERMINATED c.decode_docs-used.new.decoder _ _ docs.holds c.with_block-decoded_blocks.ensures;
      freqs_are = logs_freqs c.args.self.now.postings.freqs c.args.skip.now.block _ _ c.args.freq_decoder.now c.decode_freqs.new.decoder read freqs c.with_block-decoded_blocks-2.ensures;
    }
