use Rattle.std.proofs.Common.{◌≡◌, ◌∙◌, ◌<◌, ◌≤◌, Err, ap, length, rules}
use Rattle.ii_io.specs.declared.faults.Fault.TheVariants as faults
use Rattle.ii_io.specs.declared.faults.Part.TheVariants as parts
use Rattle.ii_file_slice.specs.declared.faults.FileFault.TheVariants.{Index}
use Rattle.std.specs.List.{list_all}
use Rattle.ii_termstore.specs.TermInfos.{is_sound}
use Rattle.ii_warmup.specs.Warmup.{do_ranges_lie, wanted_view}
use Rattle.ii_warmup.specs.declared.wanted_terms.WantedTerm.{WantedTerm}
use Rattle.ii_warmup.proofs.FaultLemmas.{fault_of_more, one_fails}
use Rattle.ii_warmup.proofs.CopyingLemmas.{copying_key, copying_next, part_of_copies}
use Rattle.ii_warmup.proofs.copying.copy_terms.Goals as goal

pub copy_term-requires-clause-ascending : goal.copy_term-requires-clause-ascending
copy_term-requires-clause-ascending g c =
    let a = c.args in
    let l = c.loop-term in
    let inside : l.term-index < length a.wanted.now = search rules in
    copying_key a.option (g.P.FileHandle.bytes a.postings.now) (g.Q.FileHandle.bytes a.positions.now) a.wanted.now a.count.now l.term-index c.term-item.result l.copied c.requires.ascending inside c.term-item.is l.invariant.copying

pub loop-term-preserved : goal.loop-term-preserved
loop-term-preserved g c =
    let a = c.args in
    let l = c.loop-term in
    let inside : l.term-index < length a.wanted.now = search rules in
    let copies = rw (l.invariant.postings, l.invariant.positions) at c.in-Ok-copy_term.ensures.copies in
    record {
      postings = c.copy_term.ensures.files.0 ∙ l.invariant.postings;
      positions = c.copy_term.ensures.files.1 ∙ l.invariant.positions;
      copying = copying_next a.option (g.P.FileHandle.bytes a.postings.now) (g.Q.FileHandle.bytes a.positions.now) a.wanted.now a.count.now l.term-index c.term-item.result l.copied c.in-Ok-copy_term.copied inside c.term-item.is l.invariant.copying copies;
    }

pub returns-in-Ok-finish-clause-part : goal.returns-in-Ok-finish-clause-part
returns-in-Ok-finish-clause-part g c = λ requested whole p_is q_is option_is counted wanted_is.
    let a = c.args in
    let l = c.loop-term in
    let end : length a.wanted.now ≤ l.term-index = search rules in
    part_of_copies a.option (g.P.FileHandle.bytes a.postings.now) (g.Q.FileHandle.bytes a.positions.now) a.wanted.now a.count.now l.term-index l.copied c.in-Ok-finish.reader whole requested l.invariant.copying end
    c.in-Ok-finish.ensures.ok p_is q_is option_is counted wanted_is

pub returns-in-Err-copy_term-clause-sound : goal.returns-in-Err-copy_term-clause-sound
returns-in-Err-copy_term-clause-sound g c = λ p q p_is q_is p_sound q_sound.
    let a = c.args in
    let l = c.loop-term in
    let t = c.term-item.result in
    let inside : l.term-index < length a.wanted.now = search rules in
    let lies = λ (u : WantedTerm). do_ranges_lie a.option p q (wanted_view u) in
    let sound = λ (u : WantedTerm). is_sound u.info in
    fault_of_more (lies t) (sound t) (list_all lies a.wanted.now) (list_all sound a.wanted.now) c.in-Err-copy_term.fault
    (one_fails lies a.wanted.now l.term-index t inside c.term-item.is) (one_fails sound a.wanted.now l.term-index t inside c.term-item.is)
    ((rw (l.invariant.postings, l.invariant.positions) at c.in-Err-copy_term.ensures.sound) p q p_is q_is p_sound q_sound)

pub returns-in-Err-copy_term-clause-range : goal.returns-in-Err-copy_term-clause-range
returns-in-Err-copy_term-clause-range g c = λ p q p_is q_is damaged.
    let a = c.args in
    let l = c.loop-term in
    let t = c.term-item.result in
    let inside : l.term-index < length a.wanted.now = search rules in
    let lies = λ (u : WantedTerm). do_ranges_lie a.option p q (wanted_view u) in
    let here : c.in-Err-copy_term.fault ≡ Index (faults.Damaged parts.Range) = cc in
    one_fails lies a.wanted.now l.term-index t inside c.term-item.is ((rw (l.invariant.postings, l.invariant.positions) at c.in-Err-copy_term.ensures.range) p q p_is q_is (ap Err here))
