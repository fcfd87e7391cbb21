-- What each path of the code comes to, in the words of the definition.
use Prim.Native.Nat.{ℕ, zero, suc, ◌-◌, ◌<◌, ◌≤◌}
use native.Mathlib.Omega.{arith}
use Rattle.std.specs.Prelude.{◌≡◌, refl, Bool, true, false, cond, List, [], ◌++◌, ltb, length, drop}
use Rattle.std.proofs.Common.{ap, ◌∙◌, length-append, lt-ltb, le-ltb}
use Rattle.report.specs.Lines.{waypoint_line, in_buffer, count_in}
use Rattle.report.specs.declared.lines.Told.{Told}
use Rattle.print_lines.specs.Lines.{line_of}

module _ (t : Told) (list : List ℕ) where
  -- behind the last waypoint there is no line
  pub past_list : (k : ℕ) → t.waypoints < k → line_of t list k ≡ []
  unfolding line_of
  past_list zero h = absurd (omega arith)
  past_list (suc k) h = rw (le-ltb k t.waypoints (omega arith))

  -- a waypoint's line
  pub in_list : (k : ℕ) → (k ≡ 0 → ⊥) → k ≤ t.waypoints → line_of t list k ≡ waypoint_line list (k - 1)
  unfolding line_of
  in_list zero d h = absurd (d refl)
  in_list (suc k) d h = let e : suc k - 1 ≡ k = omega arith in rw (lt-ltb k t.waypoints (omega arith), e)

-- a line that was written in a buffer has no more bytes than the buffer
pub count_fits : (l old new : List ℕ) → new ≡ in_buffer l old → length new ≡ length old → count_in l old ≤ length new
unfolding in_buffer count_in
count_fits l old new e h = go (ltb (length old) 128) e
  where
    go : (t : Bool) → new ≡ cond t old (l ++ drop (length l) old) → cond t 0 (length l) ≤ length new
    go true d = omega arith
    go false d = omega (arith, ap length d ∙ length-append l (drop (length l) old))
