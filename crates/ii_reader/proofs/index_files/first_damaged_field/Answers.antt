use Rattle.std.proofs.Common.{rules, ◌∙◌, ◌<◌, ap, length, refl, subst, sym}
use Rattle.ii_reader.specs.Damage.{first_damaged_term}
use Rattle.ii_reader.specs.InvertedIndexReader.{AllOpen}
use Rattle.ii_reader.proofs.DamageLemmas.{all_checked, checked_all, checked_next, checked_none, checked_stops}
use Rattle.ii_reader.proofs.index_files.first_damaged_field.Goals as goal

pub loop-reader-preserved : goal.loop-reader-preserved
loop-reader-preserved c =
    let l = c.loop-reader in
    let readers = c.args.readers.now in
    let item = c.reader-item in
    let low : l.reader-index < length readers = search rules in
    let none = sym c.in_default.is ∙ c.in_ok-term.ensures.found ∙ ap first_damaged_term item.is in
    record {
      place = search rules;
      checked = checked_next readers l.reader-index item.result l.invariant.checked low none (subst AllOpen item.is (c.in_ok-term.ensures.opens.0 c.in_default.is));
    }

pub loop-reader-init : goal.loop-reader-init
loop-reader-init c = record { place = refl; checked = checked_none c.args.readers.now }

pub returns-in-Some-clause-found : goal.returns-in-Some-clause-found
returns-in-Some-clause-found c =
    let l = c.loop-reader in
    let readers = c.args.readers.now in
    let item = c.reader-item in
    let low : l.reader-index < length readers = search rules in
    let some = sym c.in-Some.is ∙ c.in_ok-term.ensures.found ∙ ap first_damaged_term item.is in
    rw (c.from_field_id.ensures, l.invariant.place) (checked_stops readers l.reader-index item.result c.in-Some.term l.invariant.checked low some)

pub returns-in-Some-clause-opens : goal.returns-in-Some-clause-opens
returns-in-Some-clause-opens c =
    let l = c.loop-reader in
    let readers = c.args.readers.now in
    let item = c.reader-item in
    let low : l.reader-index < length readers = search rules in
    let some = c.in-Some.is in
    (λ none. absurd (cc), λ all. absurd (let none = c.in_ok-term.ensures.opens.1 (subst AllOpen (sym item.is) (all l.reader-index item.result low)) in cc))

pub returns-clause-found : goal.returns-clause-found
returns-clause-found c = checked_all c.args.readers.now c.loop-reader.reader-index c.loop-reader-test.false c.loop-reader.invariant.checked

pub returns-clause-opens : goal.returns-clause-opens
returns-clause-opens c = (λ none. all_checked c.args.readers.now c.loop-reader.reader-index c.loop-reader-test.false c.loop-reader.invariant.checked, λ all. refl)
