-- The body of a field in a file whose table may be damaged.
use Rattle.std.specs.Prelude.{ℕ, List, Option, None, Some}
use Rattle.ii_io.specs.Composite.{Body, body_of}

-- the body of a field, if the table is valid and has one
abbrev pub body_in : ℕ → Option (List Body) → Option (List ℕ)
body_in field None = None
body_in field (Some bodies) = body_of field bodies
