use Rattle.ii_check.proofs.CheckedPostingsLemmas.{asked}
use Rattle.ii_check.proofs.KnownLemmas.{known_checked}
use Rattle.ii_check.proofs.places.known_places.Goals as goal

pub returns : goal.returns
returns c =
    let p = c.skip_places-places.result in
    known_checked (asked c.args.record_option c.args.requested_option c.args.doc_freq c.args.bytes.now p.skip_info p.entries p.body) c.freq_reading_option-reading.result c.requires.known c.skip_places-places.ensures c.requires.long c.freq_reading_option-reading.ensures
