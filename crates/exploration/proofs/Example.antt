-- A worked example. Seven points in a line, 0 to 6, walked both ways, with a connector over two points onto the goal. The flood searches it under small
-- budgets, and the claims turn one Unreachable into a statement on every list and on every larger budget.
use Rattle.std.specs.Prelude.{◌≡◌, refl, true, cond, List, [], ◌∷◌, ◌++◌, ℕ, ◌+◌, ◌-◌, ◌≤◌, ltb, eqb}
use Rattle.std.proofs.Math.Option.{none, some}
use Rattle.std.proofs.Common.{eqb-true, eq-eqb}
use Rattle.exploration.specs.Graph.{Graph, GraphLaws, Route}
use Rattle.exploration.specs.Explore.{Found, Unreachable, BudgetExceeded, effect, advance, begin, outcome, answer, ending}
use Rattle.exploration.specs.WalkBack.{is_route, is_way}
use Rattle.exploration.specs.Canonical.{canonical, canonical_laws}
use Rattle.exploration.specs.Flood.{flood}
use Rattle.exploration.proofs.Flood.{flood_laws}
use Rattle.exploration.proofs.Claims.{unreachable_has_no_route, unreachable_stays_unreachable}

-- labels: 1 up, 2 down, 9 the connector, 0 the start
unfoldable line : ℕ → Graph ℕ ℕ
line g = canonical (λ p. p) (λ p q. eqb p q) (λ l m. eqb l m) 0 0 g (λ p. cond (ltb p 6) ((p + 1, 1) ∷ []) [] ++ cond (ltb 0 p) ((p - 1, 2) ∷ []) []) (λ p. cond (eqb (p + 2) g) (some 9) none)

line_laws : (g : ℕ) → GraphLaws (line g)
unfolding line
line_laws g = canonical_laws (λ p. p) (λ p q. eqb p q) (λ l m. eqb l m) 0 0 g (λ p. cond (ltb p 6) ((p + 1, 1) ∷ []) [] ++ cond (ltb 0 p) ((p - 1, 2) ∷ []) []) (λ p. cond (eqb (p + 2) g) (some 9) none) (λ p q e. eqb-true p q e) (λ p. eq-eqb p p refl) (λ l. eq-eqb l l refl)

-- to 4: budgets 0 to 2 are exceeded, 3 is enough
nothing_kept : answer (line 4) flood 0 ≡ BudgetExceeded
unfolding outcome begin advance effect ending line canonical flood
nothing_kept = refl

third_point_dropped : answer (line 4) flood 2 ≡ BudgetExceeded
unfolding outcome begin advance effect ending line canonical flood
third_point_dropped = refl

found_by_three : answer (line 4) flood 3 ≡ Found ((0, 0) ∷ (1, 1) ∷ (2, 1) ∷ (4, 9) ∷ [])
unfolding outcome begin advance effect ending line canonical flood
found_by_three = refl

walked_back : is_route (line 4) ((0, 0) ∷ (1, 1) ∷ (2, 1) ∷ (4, 9) ∷ []) ≡ true
unfolding is_route is_way line canonical
walked_back = refl

-- to 40: all seven points are kept and none leads on
far : answer (line 40) flood 7 ≡ Unreachable
unfolding outcome begin advance effect ending line canonical flood
far = refl

-- so no list is a route to 40, whatever its length, and no larger budget finds one
far_for_every_list : (t : List (ℕ × ℕ)) → Route (line 40) t → ⊥
far_for_every_list = unreachable_has_no_route (line 40) flood (line_laws 40) flood_laws 7 far

far_for_every_budget : (b : ℕ) → 7 ≤ b → answer (line 40) flood b ≡ Unreachable
far_for_every_budget b h = unreachable_stays_unreachable (line 40) flood (line_laws 40) flood_laws 7 b h far
