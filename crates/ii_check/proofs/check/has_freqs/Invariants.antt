use Rattle.std.proofs.Common.{◌≡◌, ◌+◌, ◌≤◌, ◌/◌}
use Rattle.ii_layout.specs.SkipList.{entries_at}
use Rattle.ii_layout.specs.SkipReader.{reader_at}
use Rattle.ii_check.specs.Check.{skip_list_of}
use Rattle.ii_check.proofs.FrequencyLemmas.{AreCheckedTo}
use Rattle.ii_check.proofs.check.has_freqs.Given as goal

abbrev pub invariant-loop-block : goal.invariant-loop-block
invariant-loop-block l = record {
  reader : l.skip ≡ reader_at l.fn.skip_info l.doc_freq (entries_at l.fn.skip_info (l.doc_freq / 128) l.skip_data) l._block;
  checked : AreCheckedTo (skip_list_of l.fn.skip_info (l.doc_freq / 128) l.skip_data l.body) l._block;
  decodes : l.decoder.decodes ≤ l.fn.decoder.decodes + l._block;
  counted : l.checked.value ≡ l.fn.checked.value + l._block;
  new : l._block ≡ 0 → l.decoder ≡ l.fn.decoder;
}
