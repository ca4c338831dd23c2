use Rattle.std.proofs.Common.{◌||◌, not}
use Rattle.ii_reader.specs.InvertedIndexReader.{lies_in}
use Rattle.ii_termstore.specs.TermInfos.{is_short, is_sound}
use Rattle.ii_warmup.proofs.FaultLemmas.{fault_of_more, first_fails, second_fails}
use Rattle.ii_warmup.specs.Warmup.{do_ranges_lie, reads_positions_of, wanted_view}
use Rattle.ii_warmup.proofs.copying.copy_term.Goals as goal

pub returns-in-Err-clause-sound : goal.returns-in-Err-clause-sound
returns-in-Err-clause-sound g c = λ p q p_is q_is p_sound q_sound.
    let t = c.args.term.now in
    let option = c.args.option in
    let docs = t.info.postings_range in
    let places = t.info.positions_range in
    fault_of_more (lies_in p docs) (is_short docs) (do_ranges_lie option p q (wanted_view t)) (is_sound t.info) c.in-Err.fault
    (first_fails (lies_in p docs) (not (reads_positions_of option (wanted_view t)) || lies_in q places)) (first_fails (is_short docs) (is_short places)) (c.in-Err.ensures.sound p p_is p_sound)

pub returns-in-Err-read_positions-clause-sound : goal.returns-in-Err-read_positions-clause-sound
returns-in-Err-read_positions-clause-sound g c = λ p q p_is q_is p_sound q_sound.
    let t = c.args.term.now in
    let option = c.args.option in
    let docs = t.info.postings_range in
    let places = t.info.positions_range in
    let lie = not (reads_positions_of option (wanted_view t)) || lies_in q places in
    fault_of_more lie (is_short places) (do_ranges_lie option p q (wanted_view t)) (is_sound t.info) c.in-Err-read_positions.fault
    (second_fails (lies_in p docs) lie) (second_fails (is_short docs) (is_short places)) (c.in-Err-read_positions.ensures.sound q q_is q_sound)
