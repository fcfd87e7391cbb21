-- The 32 bits of an i32, as the code works them out: what is left of the number and 2^32, divided by 2^32.
use Rattle.std.specs.Prelude.{suc, ◌%◌, ◌<◌, ◌≡◌, T, ℤ, pos, negsuc, ◌+ℤ◌, nat_abs}
use Rattle.std.proofs.Common.{arith, le-ltb, Fits, SFits, to_z, of_z, to_z-of_z}
use Rattle.std.specs.Int.Signed.{non_neg}
use Rattle.std.specs.Int.{w32, w64}
use Rattle.std.proofs.Math.Facts.{sfits_widen}

-- what the code asks of the sum, and what it gives
pub record Added (z y : ℤ) : Type 0 where
  pub fits : SFits w64 y
  pub natural : T (non_neg y)
  pub small : Fits w64 (nat_abs y)
  pub is : nat_abs y % 4294967296 ≡ of_z w32 z

added : (z : ℤ) → SFits w32 z → Added z (z +ℤ pos 4294967296)
added (pos n) f = let b : n < 2147483648 = f.sfits in record { fits = record { sfits = omega arith }; natural = tt; small = record { fits = omega arith }; is = omega arith }
added (negsuc k) f =
    let b : k < 2147483648 = f.sfits in
    rw (le-ltb 4294967296 (suc k) (omega arith)) (record { fits = record { sfits = omega arith }; natural = tt; small = record { fits = omega arith }; is = omega arith })

module _ (z : ℤ) (f : SFits w32 z) where
  here : to_z w32 (of_z w32 z) ≡ z
  here = to_z-of_z f

  wide : SFits w64 z
  wide = sfits_widen {w = w32} {w' = w64} tt f

  there : to_z w64 (of_z w64 z) ≡ z
  there = to_z-of_z wide

  pub cast_fits : SFits w64 (to_z w32 (of_z w32 z))
  cast_fits = rw here wide

  pub sum_fits : SFits w64 (to_z w64 (of_z w64 (to_z w32 (of_z w32 z))) +ℤ pos 4294967296)
  sum_fits = rw (here, there) (added z f).fits

  pub sum_is : Added z (to_z w64 (of_z w64 (to_z w64 (of_z w64 (to_z w32 (of_z w32 z))) +ℤ pos 4294967296)))
  sum_is = rw (here, there, to_z-of_z (added z f).fits) (added z f)
