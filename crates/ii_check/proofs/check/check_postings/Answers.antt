use Rattle.std.proofs.Common.{◌%◌, sym, ap, ◌∙◌, is_some, refl}
use Rattle.ii_layout.specs.SkipList.{SkipList}
use Rattle.ii_layout.specs.Frequencies.{freqs_at}
use Rattle.ii_check.proofs.CheckedPostingsLemmas.{asked, no_freqs}
use Rattle.ii_check.proofs.PartLemmas.{looked, flag, unread_found, read_found, checked, loaded_short, HoldShort}
use Rattle.ii_check.proofs.check.check_postings.Goals as goal

pub returns-then-not-is_read-clause-ok : goal.returns-then-not-is_read-clause-ok
returns-then-not-is_read-clause-ok c =
    let a = asked c.args.record_option c.args.requested_option c.args.doc_freq c.args.bytes.now c.in-Some.places.skip_info c.in-Some.places.entries c.in-Some.places.body in
    let l = looked a c.bytes_from-skip_data.result.now c.bytes_from-body.result.now c.in-Some-after_documents.after.now c.freq_reading_option-reading.result c.in-Some.ensures c.bytes_from-skip_data.ensures c.bytes_from-body.ensures c.in-Some-after_documents.ensures.after c.freq_reading_option-reading.ensures in
    let unread = sym c.is_read.ensures ∙ c.if-not-is_read.true in
    checked a _ _ _ _ l (unread_found a _ _ _ l unread)

pub returns-then-not-is_read-clause-short : goal.returns-then-not-is_read-clause-short
returns-then-not-is_read-clause-short c = λ few.
    let a = asked c.args.record_option c.args.requested_option c.args.doc_freq c.args.bytes.now c.in-Some.places.skip_info c.in-Some.places.entries c.in-Some.places.body in
    let l = looked a c.bytes_from-skip_data.result.now c.bytes_from-body.result.now c.in-Some-after_documents.after.now c.freq_reading_option-reading.result c.in-Some.ensures c.bytes_from-skip_data.ensures c.bytes_from-body.ensures c.in-Some-after_documents.ensures.after c.freq_reading_option-reading.ensures in
    let unread = sym c.is_read.ensures ∙ c.if-not-is_read.true in
    let short : HoldShort a c.bytes_from-body.result.now c.in-Some-after_documents.after.now c.freq_reading_option-reading.result c.args.doc_decoder.now c.after_documents.new.decoder c.args.freq_decoder.now c.args.freq_decoder.now =
    record { few = few; body_is = c.bytes_from-body.ensures; row = c.in-Some-after_documents.ensures.short few; read = λ yes. absurd (cc); unread = λ no. refl }
    in
    loaded_short a _ c.bytes_from-body.result.now c.in-Some-after_documents.after.now c.freq_reading_option-reading.result _ c.args.doc_decoder.now c.after_documents.new.decoder c.args.freq_decoder.now c.args.freq_decoder.now l (unread_found a _ _ _ l unread) short

pub returns-then-not-has_freqs-clause-err : goal.returns-then-not-has_freqs-clause-err
returns-then-not-has_freqs-clause-err c =
    let a = asked c.args.record_option c.args.requested_option c.args.doc_freq c.args.bytes.now c.in-Some.places.skip_info c.in-Some.places.entries c.in-Some.places.body in
    let l = looked a c.bytes_from-skip_data.result.now c.bytes_from-body.result.now c.in-Some-after_documents.after.now c.freq_reading_option-reading.result c.in-Some.ensures c.bytes_from-skip_data.ensures c.bytes_from-body.ensures c.in-Some-after_documents.ensures.after c.freq_reading_option-reading.ensures in
    let read = sym (flag a _ _ _ l) ∙ sym c.is_read.ensures ∙ c.if-not-is_read.false in
    no_freqs a l.docs c.in-Some-after_documents.after.now l.split l.documents read (ap (λ (s : SkipList). is_some (freqs_at s (c.args.doc_freq % 128) c.in-Some-after_documents.after.now)) (sym l.skip_is) ∙ sym c.has_freqs.ensures.has ∙ c.if-not-has_freqs.true)

pub returns-clause-ok : goal.returns-clause-ok
returns-clause-ok c =
    let a = asked c.args.record_option c.args.requested_option c.args.doc_freq c.args.bytes.now c.in-Some.places.skip_info c.in-Some.places.entries c.in-Some.places.body in
    let l = looked a c.bytes_from-skip_data.result.now c.bytes_from-body.result.now c.in-Some-after_documents.after.now c.freq_reading_option-reading.result c.in-Some.ensures c.bytes_from-skip_data.ensures c.bytes_from-body.ensures c.in-Some-after_documents.ensures.after c.freq_reading_option-reading.ensures in
    let read = sym c.is_read.ensures ∙ c.if-not-is_read.false in
    checked a _ _ _ _ l (read_found a _ _ _ l read (sym c.has_freqs.ensures.has ∙ c.if-not-has_freqs.false))

pub returns-clause-short : goal.returns-clause-short
returns-clause-short c = λ few.
    let a = asked c.args.record_option c.args.requested_option c.args.doc_freq c.args.bytes.now c.in-Some.places.skip_info c.in-Some.places.entries c.in-Some.places.body in
    let l = looked a c.bytes_from-skip_data.result.now c.bytes_from-body.result.now c.in-Some-after_documents.after.now c.freq_reading_option-reading.result c.in-Some.ensures c.bytes_from-skip_data.ensures c.bytes_from-body.ensures c.in-Some-after_documents.ensures.after c.freq_reading_option-reading.ensures in
    let read = sym c.is_read.ensures ∙ c.if-not-is_read.false in
    let short : HoldShort a c.bytes_from-body.result.now c.in-Some-after_documents.after.now c.freq_reading_option-reading.result c.args.doc_decoder.now c.after_documents.new.decoder c.args.freq_decoder.now c.has_freqs.new.decoder =
    record { few = few; body_is = c.bytes_from-body.ensures; row = c.in-Some-after_documents.ensures.short few; read = λ yes. c.has_freqs.ensures.short few c.if-not-has_freqs.false; unread = λ no. absurd (cc) }
    in
    loaded_short a _ c.bytes_from-body.result.now c.in-Some-after_documents.after.now c.freq_reading_option-reading.result _ c.args.doc_decoder.now c.after_documents.new.decoder c.args.freq_decoder.now c.has_freqs.new.decoder l (read_found a _ _ _ l read (sym c.has_freqs.ensures.has ∙ c.if-not-has_freqs.false)) short
