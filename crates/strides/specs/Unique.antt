-- An edge of an expansion has one result: two columns and two pairs of rooms that meet `Strode` are the same.
use Rattle.std.specs.Prelude.{◌≡◌, Option, Some, None, List, ℕ}
use Rattle.std.proofs.Common.{sym, ◌∙◌}
use Rattle.moves.specs.declared.answer.Waypoint.{Waypoint}
use Rattle.rooms.specs.declared.Counts.{Counts}
use Rattle.visits.specs.declared.Aim.{Aim}
use Rattle.visits.specs.declared.Place.{Place}
use Rattle.visits.proofs.Unique.{Lent, one_untouched, one_visited}
use Rattle.strides.specs.declared.Column.{Column}
use Rattle.strides.specs.Strides.{VisitedBy, Strode}

module _ {a f b₁ g₁ b₂ g₂ : List ℕ} (l₁ : Lent a f b₁ g₁) (l₂ : Lent a f b₂ g₂) where
  one_by : (aim : Aim) (at : Place) (e : Option Waypoint) (j : ℕ) (c : Counts) {r₁ r₂ : Counts} → VisitedBy aim at e j c r₁ a f b₁ g₁ → VisitedBy aim at e j c r₂ a f b₂ g₂ →
      (r₁ ≡ r₂) × (b₁ ≡ b₂) × (g₁ ≡ g₂)
  one_by aim at None j c x y = one_untouched x y
  one_by aim at (Some w) j c x y = one_visited l₁ l₂ x y

  -- an edge has one result, of lent slices
  pub one_stride : {aim : Aim} {at : Place} {edge : Option Waypoint} {j : ℕ} {c r₁ r₂ : Column} →
      Strode aim at edge j c r₁ a f b₁ g₁ → Strode aim at edge j c r₂ a f b₂ g₂ → (r₁ ≡ r₂) × (b₁ ≡ b₂) × (g₁ ≡ g₂)
  one_stride {aim} {at} {edge} {j} {c} x y =
      let z = one_by aim at edge j c.counts x.visited y.visited in
      ((λ i. record { counts = z.0 i; level = (x.noted ∙ sym y.noted) i }), z.1, z.2)
