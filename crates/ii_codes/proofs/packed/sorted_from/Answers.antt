use Rattle.std.proofs.Common.{◌≡◌, arith}
use Rattle.ii_codes.proofs.packed.sorted_from.Goals as goal

pub returns-in-0-clause-fits : goal.returns-in-0-clause-fits
returns-in-0-clause-fits c = rw c.in-0.is c.sorted_width.ensures.fits

pub returns-in-0-clause-values : goal.returns-in-0-clause-values
returns-in-0-clause-values c = rw c.in-0.is c.sorted_width.ensures.values

pub returns-in-1-clause-fits : goal.returns-in-1-clause-fits
returns-in-1-clause-fits c = rw c.in-1.is c.sorted_narrow.ensures.fits

pub returns-in-1-clause-values : goal.returns-in-1-clause-values
returns-in-1-clause-values c = rw c.in-1.is c.sorted_narrow.ensures.values

pub returns-in-2-clause-fits : goal.returns-in-2-clause-fits
returns-in-2-clause-fits c = rw c.in-2.is c.sorted_narrow-in-2.ensures.fits

pub returns-in-2-clause-values : goal.returns-in-2-clause-values
returns-in-2-clause-values c = rw c.in-2.is c.sorted_narrow-in-2.ensures.values

pub returns-in-3-clause-fits : goal.returns-in-3-clause-fits
returns-in-3-clause-fits c = rw c.in-3.is c.sorted_narrow-in-3.ensures.fits

pub returns-in-3-clause-values : goal.returns-in-3-clause-values
returns-in-3-clause-values c = rw c.in-3.is c.sorted_narrow-in-3.ensures.values

pub returns-in-4-clause-fits : goal.returns-in-4-clause-fits
returns-in-4-clause-fits c = rw c.in-4.is c.sorted_narrow-in-4.ensures.fits

pub returns-in-4-clause-values : goal.returns-in-4-clause-values
returns-in-4-clause-values c = rw c.in-4.is c.sorted_narrow-in-4.ensures.values

pub returns-in-5-clause-fits : goal.returns-in-5-clause-fits
returns-in-5-clause-fits c = rw c.in-5.is c.sorted_narrow-in-5.ensures.fits

pub returns-in-5-clause-values : goal.returns-in-5-clause-values
returns-in-5-clause-values c = rw c.in-5.is c.sorted_narrow-in-5.ensures.values

pub returns-in-6-clause-fits : goal.returns-in-6-clause-fits
returns-in-6-clause-fits c = rw c.in-6.is c.sorted_narrow-in-6.ensures.fits

pub returns-in-6-clause-values : goal.returns-in-6-clause-values
returns-in-6-clause-values c = rw c.in-6.is c.sorted_narrow-in-6.ensures.values

pub returns-in-7-clause-fits : goal.returns-in-7-clause-fits
returns-in-7-clause-fits c = rw c.in-7.is c.sorted_narrow-in-7.ensures.fits

pub returns-in-7-clause-values : goal.returns-in-7-clause-values
returns-in-7-clause-values c = rw c.in-7.is c.sorted_narrow-in-7.ensures.values

pub returns-in-8-clause-fits : goal.returns-in-8-clause-fits
returns-in-8-clause-fits c = rw c.in-8.is c.sorted_narrow-in-8.ensures.fits

pub returns-in-8-clause-values : goal.returns-in-8-clause-values
returns-in-8-clause-values c = rw c.in-8.is c.sorted_narrow-in-8.ensures.values

pub returns-in-9-clause-fits : goal.returns-in-9-clause-fits
returns-in-9-clause-fits c = rw c.in-9.is c.sorted_narrow-in-9.ensures.fits

pub returns-in-9-clause-values : goal.returns-in-9-clause-values
returns-in-9-clause-values c = rw c.in-9.is c.sorted_narrow-in-9.ensures.values

pub returns-in-10-clause-fits : goal.returns-in-10-clause-fits
returns-in-10-clause-fits c = rw c.in-10.is c.sorted_wide.ensures.fits

pub returns-in-10-clause-values : goal.returns-in-10-clause-values
returns-in-10-clause-values c = rw c.in-10.is c.sorted_wide.ensures.values

pub returns-in-11-clause-fits : goal.returns-in-11-clause-fits
returns-in-11-clause-fits c = rw c.in-11.is c.sorted_wide-in-11.ensures.fits

pub returns-in-11-clause-values : goal.returns-in-11-clause-values
returns-in-11-clause-values c = rw c.in-11.is c.sorted_wide-in-11.ensures.values

pub returns-in-12-clause-fits : goal.returns-in-12-clause-fits
returns-in-12-clause-fits c = rw c.in-12.is c.sorted_wide-in-12.ensures.fits

pub returns-in-12-clause-values : goal.returns-in-12-clause-values
returns-in-12-clause-values c = rw c.in-12.is c.sorted_wide-in-12.ensures.values

pub returns-in-13-clause-fits : goal.returns-in-13-clause-fits
returns-in-13-clause-fits c = rw c.in-13.is c.sorted_wide-in-13.ensures.fits

pub returns-in-13-clause-values : goal.returns-in-13-clause-values
returns-in-13-clause-values c = rw c.in-13.is c.sorted_wide-in-13.ensures.values

pub returns-in-14-clause-fits : goal.returns-in-14-clause-fits
returns-in-14-clause-fits c = rw c.in-14.is c.sorted_wide-in-14.ensures.fits

pub returns-in-14-clause-values : goal.returns-in-14-clause-values
returns-in-14-clause-values c = rw c.in-14.is c.sorted_wide-in-14.ensures.values

pub returns-in-15-clause-fits : goal.returns-in-15-clause-fits
returns-in-15-clause-fits c = rw c.in-15.is c.sorted_wide-in-15.ensures.fits

pub returns-in-15-clause-values : goal.returns-in-15-clause-values
returns-in-15-clause-values c = rw c.in-15.is c.sorted_wide-in-15.ensures.values

pub returns-in-16-clause-fits : goal.returns-in-16-clause-fits
returns-in-16-clause-fits c = rw c.in-16.is c.sorted_wide-in-16.ensures.fits

pub returns-in-16-clause-values : goal.returns-in-16-clause-values
returns-in-16-clause-values c = rw c.in-16.is c.sorted_wide-in-16.ensures.values

pub returns-in-17-clause-fits : goal.returns-in-17-clause-fits
returns-in-17-clause-fits c = rw c.in-17.is c.sorted_wide-in-17.ensures.fits

pub returns-in-17-clause-values : goal.returns-in-17-clause-values
returns-in-17-clause-values c = rw c.in-17.is c.sorted_wide-in-17.ensures.values

pub returns-in-18-clause-fits : goal.returns-in-18-clause-fits
returns-in-18-clause-fits c = rw c.in-18.is c.sorted_wide-in-18.ensures.fits

pub returns-in-18-clause-values : goal.returns-in-18-clause-values
returns-in-18-clause-values c = rw c.in-18.is c.sorted_wide-in-18.ensures.values

pub returns-in-19-clause-fits : goal.returns-in-19-clause-fits
returns-in-19-clause-fits c = rw c.in-19.is c.sorted_wide-in-19.ensures.fits

pub returns-in-19-clause-values : goal.returns-in-19-clause-values
returns-in-19-clause-values c = rw c.in-19.is c.sorted_wide-in-19.ensures.values

pub returns-in-20-clause-fits : goal.returns-in-20-clause-fits
returns-in-20-clause-fits c = rw c.in-20.is c.sorted_wide-in-20.ensures.fits

pub returns-in-20-clause-values : goal.returns-in-20-clause-values
returns-in-20-clause-values c = rw c.in-20.is c.sorted_wide-in-20.ensures.values

pub returns-in-21-clause-fits : goal.returns-in-21-clause-fits
returns-in-21-clause-fits c = rw c.in-21.is c.sorted_wide-in-21.ensures.fits

pub returns-in-21-clause-values : goal.returns-in-21-clause-values
returns-in-21-clause-values c = rw c.in-21.is c.sorted_wide-in-21.ensures.values

pub returns-in-22-clause-fits : goal.returns-in-22-clause-fits
returns-in-22-clause-fits c = rw c.in-22.is c.sorted_wide-in-22.ensures.fits

pub returns-in-22-clause-values : goal.returns-in-22-clause-values
returns-in-22-clause-values c = rw c.in-22.is c.sorted_wide-in-22.ensures.values

pub returns-in-23-clause-fits : goal.returns-in-23-clause-fits
returns-in-23-clause-fits c = rw c.in-23.is c.sorted_wide-in-23.ensures.fits

pub returns-in-23-clause-values : goal.returns-in-23-clause-values
returns-in-23-clause-values c = rw c.in-23.is c.sorted_wide-in-23.ensures.values

pub returns-in-24-clause-fits : goal.returns-in-24-clause-fits
returns-in-24-clause-fits c = rw c.in-24.is c.sorted_wide-in-24.ensures.fits

pub returns-in-24-clause-values : goal.returns-in-24-clause-values
returns-in-24-clause-values c = rw c.in-24.is c.sorted_wide-in-24.ensures.values

pub returns-in-25-clause-fits : goal.returns-in-25-clause-fits
returns-in-25-clause-fits c = rw c.in-25.is c.sorted_wide-in-25.ensures.fits

pub returns-in-25-clause-values : goal.returns-in-25-clause-values
returns-in-25-clause-values c = rw c.in-25.is c.sorted_wide-in-25.ensures.values

pub returns-in-26-clause-fits : goal.returns-in-26-clause-fits
returns-in-26-clause-fits c = rw c.in-26.is c.sorted_width-in-26.ensures.fits

pub returns-in-26-clause-values : goal.returns-in-26-clause-values
returns-in-26-clause-values c = rw c.in-26.is c.sorted_width-in-26.ensures.values

pub returns-in-27-clause-fits : goal.returns-in-27-clause-fits
returns-in-27-clause-fits c = rw c.in-27.is c.sorted_width-in-27.ensures.fits

pub returns-in-27-clause-values : goal.returns-in-27-clause-values
returns-in-27-clause-values c = rw c.in-27.is c.sorted_width-in-27.ensures.values

pub returns-in-28-clause-fits : goal.returns-in-28-clause-fits
returns-in-28-clause-fits c = rw c.in-28.is c.sorted_width-in-28.ensures.fits

pub returns-in-28-clause-values : goal.returns-in-28-clause-values
returns-in-28-clause-values c = rw c.in-28.is c.sorted_width-in-28.ensures.values

pub returns-in-29-clause-fits : goal.returns-in-29-clause-fits
returns-in-29-clause-fits c = rw c.in-29.is c.sorted_width-in-29.ensures.fits

pub returns-in-29-clause-values : goal.returns-in-29-clause-values
returns-in-29-clause-values c = rw c.in-29.is c.sorted_width-in-29.ensures.values

pub returns-in-30-clause-fits : goal.returns-in-30-clause-fits
returns-in-30-clause-fits c = rw c.in-30.is c.sorted_width-in-30.ensures.fits

pub returns-in-30-clause-values : goal.returns-in-30-clause-values
returns-in-30-clause-values c = rw c.in-30.is c.sorted_width-in-30.ensures.values

pub returns-in-31-clause-fits : goal.returns-in-31-clause-fits
returns-in-31-clause-fits c = rw c.in-31.is c.sorted_width-in-31.ensures.fits

pub returns-in-31-clause-values : goal.returns-in-31-clause-values
returns-in-31-clause-values c = rw c.in-31.is c.sorted_width-in-31.ensures.values

pub returns-in_default-clause-fits : goal.returns-in_default-clause-fits
returns-in_default-clause-fits c = let width : c.args.width ≡ 32 = omega arith in rw width c.sorted_width-in_default.ensures.fits

pub returns-in_default-clause-values : goal.returns-in_default-clause-values
returns-in_default-clause-values c = let width : c.args.width ≡ 32 = omega arith in rw width c.sorted_width-in_default.ensures.values
