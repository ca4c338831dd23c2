-- What a row unfolds to compute a date or its text.
use Rattle.std.specs.Prelude.{⊤}
use Rattle.jiff_fmt.specs.Text.{places, trailing_zeros}
use Rattle.jiff_fmt.proofs.OnLiterals.{jiff_fmt_on_literals}
use Rattle.ii_dates.specs.Dates.{date_in, date_text}

unfoldable pub dates_on_literals : ⊤
unfolding date_in date_text jiff_fmt_on_literals places trailing_zeros
dates_on_literals = tt
