-- The graph of a space, a request and a body meets what the claims on a search ask of a graph (`exploration`).
use Rattle.std.specs.Prelude.{ℕ, ◌≡◌, refl, Bool, true, false, ◌&&◌, map, eqb}
use Rattle.std.proofs.Common.{eqb-true, eq-eqb}
use Rattle.std.specs.Float.{binary64}
use Rattle.std.specs.Float.Ieee.{of_bits}
use Rattle.world.specs.declared.Point.{Point}
use Rattle.world.specs.declared.Body.{Body}
use Rattle.world.specs.declared.Request.{Request}
use Rattle.world.specs.Space.{Space}
use Rattle.edges.specs.Edges.{connector}
use Rattle.exploration.specs.Graph.{GraphLaws}
use Rattle.exploration.specs.Canonical.{canonical, canonical_laws}
use Rattle.steps.specs.Columns.{steps_from}
use Rattle.rooms.specs.declared.Feet.{Feet}
use Rattle.rooms.specs.declared.Label.{Label}
use Rattle.rooms.specs.Waypoints.{canonical_word, same_word, same_point, alike, standing}
use Rattle.words.specs.Words.{coordinate, point_of, feet_of, step_of, label_if}
use Rattle.steps.specs.Graph.{graph}

-- the canonical form of a point, and what is read of it
abbrev canon : Feet → Feet
canon p = record { x = canonical_word p.x; y = canonical_word p.y; z = canonical_word p.z }

abbrev read : Feet → Point
read p = record { x = of_bits binary64 p.x; y = of_bits binary64 p.y; z = of_bits binary64 p.z }

abbrev equal : Feet → Feet → Bool
equal p q = eqb p.x q.x && eqb p.y q.y && eqb p.z q.z

sound : (p q : Feet) → equal p q ≡ true → p ≡ q
sound p q e = go (eqb p.x q.x) refl (eqb p.y q.y) refl (eqb p.z q.z) refl e
  where
    made : (a b c x y z : ℕ) → a ≡ x → b ≡ y → c ≡ z → ◌≡◌ {A = Feet} (record { x = a; y = b; z = c }) (record { x = x; y = y; z = z })
    made a b c x y z e f g = cc

    go : (a : Bool) → eqb p.x q.x ≡ a → (b : Bool) → eqb p.y q.y ≡ b → (c : Bool) → eqb p.z q.z ≡ c → (a && b && c) ≡ true → p ≡ q
    go true e true f true g h = made p.x p.y p.z q.x q.y q.z (eqb-true _ _ e) (eqb-true _ _ f) (eqb-true _ _ g)
    go true e true f false g h = cc
    go true e false f c g h = cc
    go false e b f c g h = cc

self : (p : Feet) → equal p p ≡ true
self p = rw (eq-eqb p.x p.x refl, eq-eqb p.y p.y refl, eq-eqb p.z p.z refl)

alike_self : (l : Label) → alike l l ≡ true
unfolding alike same_word
alike_self l = rw (eq-eqb l.movement l.movement refl, eq-eqb (canonical_word l.lift) (canonical_word l.lift) refl, eq-eqb l.door l.door refl)

pub graph_laws : (sp : Space) (r : Request) (body : Body) → GraphLaws (graph sp r body)
unfolding graph canonical same_point same_word point_of coordinate
graph_laws sp r body =
    canonical_laws canon equal alike (feet_of r.start) standing (feet_of r.goal) (λ p. map step_of (steps_from sp r body (read p))) (λ p. label_if (connector sp r body (read p)))
    sound self alike_self
