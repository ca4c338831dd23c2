-- Reading in steps that report the first corrupt part.
use Rattle.std.specs.Prelude.{Result, Ok, Err}
use Rattle.ii_io.specs.declared.faults.Part.{Part}
use Rattle.ii_io.specs.declared.faults.LayoutFault.{LayoutFault}
use Rattle.ii_io.specs.declared.faults.LayoutFault.TheVariants.{Damaged}

infixl 10 ◌>>=◌
-- sequences two steps, and stops at the first corrupt part
abbrev pub ◌>>=◌ : {A B : Type 0} → Result A Part → (A → Result B Part) → Result B Part
(Ok x) >>= f = f x
(Err part) >>= f = Err part

-- the part that a layout fault names
abbrev pub part_of : LayoutFault → Part
part_of (Damaged part) = part
