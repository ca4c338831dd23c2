-- The sum of counted writes.
use Rattle.std.proofs.Common.{ℕ, ◌+◌, ◌-◌, List, length, take, drop, Option}
use Rattle.std.proofs.Math.Seq.{take-add}
use Rattle.std.proofs.lemmas.List.{take_rest}
use Rattle.std.proofs.KnownBytes.{Appends-trans}
use Rattle.std.specs.Io.KnownBytes.{Appends}

-- a write of n of the bytes that are left after i
pub Appends-more : (a b c : Option (List ℕ)) (bs : List ℕ) (i n : ℕ) → Appends a b (take i bs) → Appends b c (take n (take (length bs - i) (drop i bs))) → Appends a c (take (i + n) bs)
Appends-more a b c bs i n front more =
    let rest = rw (take_rest bs i) at more in
    rw (take-add i n bs) (Appends-trans a b c (take i bs) (take n (drop i bs)) front rest)
