use Rattle.std.proofs.Common.{◌-◌, arith, length, length-append}
use Rattle.ii_termstore.specs.declared.term_info.TermInfo.{TermInfo}
use Rattle.ii_termstore.specs.TermInfos.{term_info_from}
use Rattle.ii_termstore.proofs.ReadBackLemmas.{end_at_last, joined_more}
use Rattle.ii_warmup.proofs.copied_terms.CopiedTerms.push.Goals as goal

pub insert_value-requires-clause-joined : goal.insert_value-requires-clause-joined
insert_value-requires-clause-joined c = λ _.
    rw (c.in_ok-insert_key.ensures.ok, c.count_bytes-postings_start.ensures, c.count_bytes-positions_start.ensures, c.count_bytes.ensures, c.count_bytes-2.ensures)
    (joined_more c.self.inside.dictionary.infos
    (term_info_from c.args.doc_freq (length c.self.inside.postings.items - 8) (length c.extend_from_slice.new.self.items - 8) (length c.self.inside.positions.items) (length c.extend_from_slice-2.new.self.items)) c.self.invariant.0 c.self.invariant.1)

pub invariant_of-result : goal.invariant_of-result
invariant_of-result c =
    let s = c.self.inside in
    let i : TermInfo = term_info_from c.args.doc_freq (length s.postings.items - 8) (length c.extend_from_slice.new.self.items - 8) (length s.positions.items) (length c.extend_from_slice-2.new.self.items) in
    rw (c.in_ok-insert_value.ensures.ok, c.in_ok-insert_key.ensures.ok, c.count_bytes-postings_start.ensures, c.count_bytes-positions_start.ensures, c.count_bytes.ensures, c.count_bytes-2.ensures)
    (joined_more s.dictionary.infos i c.self.invariant.0 c.self.invariant.1, end_at_last s.dictionary.infos i, rw c.in_ok-extend_from_slice.ensures.items (omega (arith, length-append s.postings.items c.args.postings.now, c.self.invariant.2)), c.self.invariant.3)
