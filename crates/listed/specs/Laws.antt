-- That the start's door is none; a look through the records, as a range's; and bad lists, record by record.
use Rattle.std.specs.Prelude.{◌≡◌, ℕ, zero, suc, ◌+◌, ◌-◌, ◌/◌, ◌%◌, ◌<◌, Bool, true, false, not, ◌&&◌, ◌||◌, List, eqb, ltb, length, refl}
use Rattle.std.specs.List.{list_any, range_with_len}
use Rattle.std.proofs.Common.{arith, ap, add-one, ltb-true, ltb-false}
use Rattle.exploration.specs.Lists.{has}
use Rattle.world.specs.Space.{no_door}
use Rattle.rooms.specs.declared.WaypointRecord.{WaypointRecord}
use Rattle.rooms.specs.Records.{waypoint_at}
use Rattle.rooms.specs.Waypoints.{standing}
use Rattle.listed.specs.Listed.{entry, entries_from, waypoints, above3, bad_list}

-- 02, No. 5: "the start has none"
pub start_has_none : standing.door ≡ no_door
start_has_none = refl

-- whether one of n records from record k on has a movement above 3
pub any_above : (s : List ℕ) (k n : ℕ) → list_any (λ j. above3 (entry (waypoint_at s j))) (range_with_len k n) ≡ has above3 (entries_from s k n)
unfolding entries_from
any_above s k zero = refl
any_above s k (suc n) = rw add-one (ap (λ b. above3 (entry (waypoint_at s k)) || b) (any_above s (suc k) n))

-- whether one of the records from k on has a movement above 3
abbrev pub above_from : List ℕ → ℕ → Bool
above_from s k = has above3 (entries_from s k (length s / 48 - k))

pub bad_begins : (s : List ℕ) → bad_list s ≡ ((not (eqb (length s % 48) 0) || eqb (length s) 0) || above_from s 0)
unfolding bad_list waypoints
bad_begins s = let e : length s / 48 - 0 ≡ length s / 48 = omega arith in rw e

module _ (s : List ℕ) (k : ℕ) (bad : Bool) where
  pub still_good : (ltb k (length s / 48) && not bad) ≡ true → (k < length s / 48) × (bad ≡ false)
  still_good t = go (ltb k (length s / 48)) refl bad t
    where
      go : (a : Bool) → ltb k (length s / 48) ≡ a → (b : Bool) → (a && not b) ≡ true → (k < length s / 48) × (b ≡ false)
      go true e false t = (ltb-true k (length s / 48) e, refl)
      go true e true t = absurd (let z : ◌≡◌ {A = ℕ} 0 1 = cc in omega arith)
      go false e b t = absurd (let z : ◌≡◌ {A = ℕ} 0 1 = cc in omega arith)

  pub bad_on : (ltb k (length s / 48) && not bad) ≡ true → (v : WaypointRecord) → v ≡ waypoint_at s k → (bad || above_from s k) ≡ (ltb 3 v.label.movement || above_from s (k + 1))
  unfolding entries_from
  bad_on t v h = let e : length s / 48 - k ≡ suc (length s / 48 - (k + 1)) = omega (arith, (still_good t).0) in rw ((still_good t).1, e, add-one, h)

  pub bad_ends : (ltb k (length s / 48) && not bad) ≡ false → (bad || above_from s k) ≡ bad
  unfolding entries_from
  bad_ends t = go (ltb k (length s / 48)) refl bad t
    where
      go : (a : Bool) → ltb k (length s / 48) ≡ a → (b : Bool) → (a && not b) ≡ false → (b || above_from s k) ≡ b
      go a e true t = refl
      go true e false t = absurd (let z : ◌≡◌ {A = ℕ} 0 1 = cc in omega arith)
      go false e false t = let z : length s / 48 - k ≡ 0 = omega (arith, ltb-false k (length s / 48) e) in rw z
