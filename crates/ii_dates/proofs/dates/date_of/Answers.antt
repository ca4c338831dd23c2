use Rattle.std.proofs.Common.{◌≡◌, Ok, ap, refl, rules, sym, ◌∙◌, Some}
use Rattle.std.proofs.lemmas.Int.{to_z-of_z}
use Rattle.std.specs.Int.{w64, w128}
use Rattle.jiff_fmt.specs.Temporal.{parse_timestamp}
use Rattle.ii_dates.specs.Dates.{date_in}
use Rattle.ii_dates.proofs.DateLaws.{after_dates, before_dates, fits_between_ends, in_range_fits, timestamp_fits}
use Rattle.ii_dates.proofs.dates.date_of.Goals as goal

pub returns-in_default : goal.returns-in_default
unfolding date_in
returns-in_default c = search rules

pub returns-then-nanoseconds : goal.returns-then-nanoseconds
unfolding date_in
returns-then-nanoseconds c =
    let wide = to_z-of_z w128 _ (timestamp_fits c.in-Ok.timestamp) in
    let read : parse_timestamp c.args.text.now ≡ Ok c.in-Ok.timestamp.nanosecond = rw (← c.as_bytes.ensures.value, ← c.parse_timestamp.ensures, c.in-Ok.is) refl in
    rw read (sym (before_dates c.in-Ok.timestamp.nanosecond (rw wide at c.if-nanoseconds.true)))

pub returns-then-nanoseconds-2 : goal.returns-then-nanoseconds-2
unfolding date_in
returns-then-nanoseconds-2 c =
    let wide = to_z-of_z w128 _ (timestamp_fits c.in-Ok.timestamp) in
    let read : parse_timestamp c.args.text.now ≡ Ok c.in-Ok.timestamp.nanosecond = rw (← c.as_bytes.ensures.value, ← c.parse_timestamp.ensures, c.in-Ok.is) refl in
    rw read (sym (after_dates c.in-Ok.timestamp.nanosecond (rw wide at c.if-nanoseconds-2.true)))

pub returns : goal.returns
unfolding date_in
returns c =
    let wide = to_z-of_z w128 _ (timestamp_fits c.in-Ok.timestamp) in
    let read : parse_timestamp c.args.text.now ≡ Ok c.in-Ok.timestamp.nanosecond = rw (← c.as_bytes.ensures.value, ← c.parse_timestamp.ensures, c.in-Ok.is) refl in
    let fits = fits_between_ends c.in-Ok.timestamp.nanosecond (rw wide at c.if-nanoseconds.false) (rw wide at c.if-nanoseconds-2.false) in
    rw (read, wide) (ap Some (to_z-of_z w64 _ fits) ∙ sym (in_range_fits _ fits))
