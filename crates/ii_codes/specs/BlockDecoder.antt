-- The state of a decoder.
use Rattle.std.specs.Prelude.{◌≡◌, ℕ, zero, suc, List, replicate, Option, None, Some, Result, OnErr, IfErr}
use Rattle.ii_io.specs.declared.faults.LayoutFault.{LayoutFault}
use Rattle.ii_io.specs.declared.faults.LayoutFault.TheVariants.{Damaged}
use Rattle.ii_io.specs.declared.faults.Part.{Part}

-- The 128 entries, how many of them were decoded last, and the number of decodes of at least one value.
pub record BlockDecoderState : Type 0 where
  pub output : List ℕ
  pub output_len : ℕ
  pub decodes : ℕ

-- the count of a decode of n values: a decode of no value is not counted
abbrev pub decodes_of : ℕ → ℕ
decodes_of zero = 0
decodes_of (suc n) = 1

-- the count of a decode of n values, which may have failed
abbrev pub decodes_made : ℕ → Option ℕ → ℕ
decodes_made n None = 0
decodes_made n (Some used) = decodes_of n

-- How a decode of corrupt bytes ends: with this fault and an empty decoder, and without being counted.
pub record ClearsOnDamage {A : Type 0} (part : Part) (old new : BlockDecoderState) (result : Result A LayoutFault) : Type 0 where
  pub fault : IfErr result (λ e. e ≡ Damaged part)
  pub cleared : OnErr result (new ≡ record { output = replicate 128 0; output_len = 0; decodes = old.decodes })
