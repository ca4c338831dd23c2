use Rattle.std.proofs.Common.{ap, ◌∙◌}
use Rattle.ii_reader.specs.BlockSegmentPostings.{BlockSegmentPostingsState}
use Rattle.ii_reader.proofs.BlockLemmas.{counted, decodes_first, docs_logged, docs_opened, entries_first, entries_opened, first_loaded, freq_decodes_first, freqs_logged, held_by, reading_opened}
use Rattle.ii_reader.proofs.KnownLemmas.{postings_known}
use Rattle.ii_reader.proofs.block_segment_postings.BlockSegmentPostings.fill.Goals as goal

pub open-opened-requires-clause-known : goal.open-opened-requires-clause-known
open-opened-requires-clause-known c = λ skipped.
    let recorded = c.record_option.ensures ∙ ap (λ (s : BlockSegmentPostingsState). s.recorded) c.self.view_is in
    let requested = c.requested_option.ensures ∙ ap (λ (s : BlockSegmentPostingsState). s.requested) c.self.view_is in
    rw (recorded, requested) (postings_known c.args.self.now.recorded c.args.self.now.requested c.args.doc_freq c.args.bytes (c.requires.known skipped))

pub invariant_of-self : goal.invariant_of-self
invariant_of-self c =
    let s = c.self.inside in
    let new = c.open-opened.new in
    let no_docs = ap (λ (s : BlockSegmentPostingsState). s.doc_blocks) (c.self.view_is ∙ c.requires.none) in
    let no_freqs = ap (λ (s : BlockSegmentPostingsState). s.freq_blocks) (c.self.view_is ∙ c.requires.none) in
    let now = held_by c.skip_reader-self-inside.result new.doc_decoder new.freq_decoder new.decoded_blocks.docs.blocks new.decoded_blocks.freqs.blocks in
    first_loaded c.in-Ok.checked now s.decoded_blocks.docs.blocks s.decoded_blocks.freqs.blocks c.in-Ok.ensures.documents c.skip_reader-self-inside.ensures.at c.skip_reader-self-inside.ensures.first c.in-Ok.ensures.first no_docs no_freqs c.in-Ok.ensures.first_logged

pub returns-in-Ok-clause-opened : goal.returns-in-Ok-clause-opened
returns-in-Ok-clause-opened c =
    let old = c.args.self.now in
    let checked = c.in-Ok.checked in
    let s = c.self.inside in
    let new = c.open-opened.new.checked_blocks in
    let none = ap (λ (s : BlockSegmentPostingsState). s.checked) (c.self.view_is ∙ c.requires.none) in
    let no_docs = ap (λ (s : BlockSegmentPostingsState). s.doc_blocks) (c.self.view_is ∙ c.requires.none) in
    let no_freqs = ap (λ (s : BlockSegmentPostingsState). s.freq_blocks) (c.self.view_is ∙ c.requires.none) in
    let logged = c.open-opened.new.decoded_blocks in
    let doc_blocks = docs_logged checked.postings.docs checked.doc_freq s.decoded_blocks.docs.blocks logged.docs.blocks c.in-Ok.ensures.documents.many no_docs c.in-Ok.ensures.first_logged.docs_are in
    let freq_blocks = freqs_logged checked.postings.freqs checked.freq_reading checked.doc_freq s.decoded_blocks.freqs.blocks logged.freqs.blocks c.in-Ok.ensures.documents.freqs c.in-Ok.ensures.documents.read no_freqs c.in-Ok.ensures.first_logged.freqs_are in
    let recorded = c.record_option.ensures ∙ ap (λ (s : BlockSegmentPostingsState). s.recorded) c.self.view_is in
    let requested = c.requested_option.ensures ∙ ap (λ (s : BlockSegmentPostingsState). s.requested) c.self.view_is in
    let postings = rw (recorded, requested) at c.in-Ok.ensures.ok in
    let reading = reading_opened old.recorded old.requested c.args.doc_freq c.args.bytes checked.postings _ postings (rw requested at c.in-Ok.ensures.reading) in
    let freqs = freq_decodes_first checked.postings.freqs checked.doc_freq c.open-opened.new.freq_decoder c.in-Ok.ensures.documents.freqs c.in-Ok.ensures.first.freqs_are in
    let docs = decodes_first checked.postings.docs checked.doc_freq c.open-opened.new.doc_decoder.decodes c.in-Ok.ensures.documents.many c.in-Ok.ensures.first.docs_are.decodes in
    record {
      docs = docs_opened old.recorded old.requested c.args.doc_freq c.args.bytes checked.postings postings;
      recorded_is = c.in-Ok.ensures.options.0 ∙ recorded;
      requested_is = c.in-Ok.ensures.options.1 ∙ requested;
      reading = reading.0;
      bounds = reading.1;
      entries = entries_opened checked c.args.doc_freq c.in-Ok.ensures.documents c.in-Ok.ensures.doc_freq;
      read = c.in-Ok.ensures.documents.read;
      first = c.skip_reader-self-inside.ensures.first;
      doc_blocks = rw (← c.in-Ok.ensures.doc_freq) doc_blocks;
      freq_blocks = rw (← c.in-Ok.ensures.doc_freq) freq_blocks;
      doc_decodes = rw (← c.in-Ok.ensures.doc_freq) docs;
      freq_decodes = rw (← c.in-Ok.ensures.doc_freq) freqs;
      checked = counted c.args.validation checked.freq_reading c.args.doc_freq (record { docs = s.checked_blocks.docs.value; freqs = s.checked_blocks.freqs.value }) (record { docs = new.docs.value; freqs = new.freqs.value }) none c.in-Ok.ensures.docs_checked c.in-Ok.ensures.freqs_checked;
      entries_read = entries_first checked c.skip_reader-self-inside.result c.args.doc_freq c.skip_reader-self-inside.ensures.at c.skip_reader-self-inside.ensures.first c.in-Ok.ensures.doc_freq;
    }
