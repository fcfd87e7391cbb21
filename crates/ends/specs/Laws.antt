-- Good ends, one by one.
use Rattle.std.specs.Prelude.{◌≡◌, refl, Bool, true, false, ◌&&◌}
use Rattle.std.proofs.Common.{sym, true≢false}
use Rattle.world.specs.declared.Body.{Body}
use Rattle.world.specs.declared.Request.{Request}
use Rattle.world.specs.Space.{Space}
use Rattle.places.specs.Places.{in_range, standable}
use Rattle.ends.specs.Ends.{ends_good}

parts : (a b c : Bool) → (a && b && c) ≡ true → (a ≡ true) × ((b ≡ true) × (c ≡ true))
parts true true true e = (refl, (refl, refl))
parts true true false e = absurd (true≢false (sym e))
parts true false c e = absurd (true≢false (sym e))
parts false b c e = absurd (true≢false (sym e))

module _ (sp : Space) (r : Request) (body : Body) where
  pub ends_parts : ends_good sp r body ≡ true → (in_range r r.goal ≡ true) × ((standable sp body r.start ≡ true) × (standable sp body r.goal ≡ true))
  unfolding ends_good
  ends_parts e = parts (in_range r r.goal) (standable sp body r.start) (standable sp body r.goal) e

  pub ends_all : in_range r r.goal ≡ true → standable sp body r.start ≡ true → standable sp body r.goal ≡ true → ends_good sp r body ≡ true
  unfolding ends_good
  ends_all g s t = rw (g, s, t)
