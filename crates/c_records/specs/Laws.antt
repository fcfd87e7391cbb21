-- A record that is shorter than its struct makes an invalid request, whatever the others hold.
use Rattle.std.specs.Prelude.{ℕ, ◌<◌, ◌≡◌, refl, false, ◌&&◌, ◌⊎◌, List, leb, length}
use Rattle.std.proofs.Math.Bool.{and-false}
use Rattle.std.proofs.Common.{inl, inr}
use Rattle.std.proofs.lemmas.Bool.{lt-leb}
use Rattle.world.specs.declared.Body.{Body}
use Rattle.world.specs.declared.Request.{Request}
use Rattle.policy.specs.declared.policy.WalkPolicy.{WalkPolicy}
use Rattle.request.specs.Request.{finite_point, all_finite, valid_request}
use Rattle.mob_request.specs.Asked.{request_of}
use Rattle.c_records.specs.Asked.{all_whole, no_point, no_request, asked, end_in, start_asked, goal_asked}

-- one of the three records is shorter than its struct
abbrev pub CutShort : List ℕ → List ℕ → ℕ → List ℕ → Type 0
CutShort window asked size body = (length window < 24) ⊎ ((length asked < size) ⊎ (length body < 24))

not_whole_lem : (window asked : List ℕ) (size : ℕ) (body : List ℕ) → CutShort window asked size body → all_whole window asked size body ≡ false
unfolding all_whole
not_whole_lem window asked size body (inl h) = rw (lt-leb 24 (length window) h)
not_whole_lem window asked size body (inr (inl h)) = rw (lt-leb size (length asked) h, and-false (leb 24 (length window)))
not_whole_lem window asked size body (inr (inr h)) = rw (lt-leb 24 (length body) h) (and-false (leb 24 (length window) && leb size (length asked)))

-- from nowhere nobody can go
from_nowhere : (r : Request) (body : Body) → r.start ≡ no_point → valid_request r body ≡ false
unfolding valid_request all_finite finite_point no_point
from_nowhere r body e = rw e

pub cut_short_is_invalid : (window request body : List ℕ) (b : Body) → CutShort window request 88 body → valid_request (asked window request body) b ≡ false
unfolding asked no_request
cut_short_is_invalid window request body b h = rw (not_whole_lem window request 88 body h) (from_nowhere no_request b refl)

-- of a mob's search, whatever its policy
pub mob_cut_short_is_invalid : (p : WalkPolicy) (window ends body : List ℕ) (b : Body) → CutShort window ends 48 body →
    valid_request (request_of p (start_asked window ends body) (goal_asked window ends body) b) b ≡ false
unfolding request_of end_in
mob_cut_short_is_invalid p window ends body b h = from_nowhere (request_of p (start_asked window ends body) (goal_asked window ends body) b) b (rw (not_whole_lem window ends 48 body h))
