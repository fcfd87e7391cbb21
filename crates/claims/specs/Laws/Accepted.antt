-- The list that a search wrote, as the walk-back reads it.
use Rattle.std.specs.Prelude.{ℕ, ◌*◌, ◌≡◌, List, length, take, drop, Ok}
use Rattle.std.proofs.Common.{ap, ◌∙◌}
use Rattle.fields.specs.Bytes.{Bytes}
use Rattle.world.specs.declared.Body.{Body}
use Rattle.world.specs.declared.Request.{Request}
use Rattle.world.specs.declared.Window.{Window}
use Rattle.world.specs.Space.{Space, space}
use Rattle.words.specs.Words.{point_of}
use Rattle.rooms.specs.declared.Feet.{Feet}
use Rattle.rooms.specs.declared.Label.{Label}
use Rattle.rooms.specs.Lists.{list_bytes}
use Rattle.outcomes.specs.declared.Outcome.TheVariants.{Found}
use Rattle.outcomes.specs.declared.Answer.{Answer}
use Rattle.search.specs.FindWalkPath.{out_after}
use Rattle.walk_back.specs.WalkBack.{IsRoute, RouteList, walked}
use Rattle.walk_back.proofs.Claims.{a_route_is_yes}
use Rattle.claims.specs.Words.{InF64}
use Rattle.claims.specs.Laws.Calls as calls
use Rattle.claims.specs.Laws.Doors.{space_doors}
use Rattle.claims.specs.Laws.Fits.{space_tops, steps_whole}
use Rattle.claims.specs.Laws.Below.{route_below}
use Rattle.claims.specs.Laws.ReadBack.{list_back, list_whole, list_front}

module _ (w : Window) (cells perms shapes boxes : List ℕ) (r : Request) (body : Body) where
  abbrev sp : Space
  sp = space w cells perms shapes boxes

  -- a route in bytes is a list that is one
  route_list : InF64 r → Bytes cells → (t : List (Feet × Label)) → IsRoute sp r body t → RouteList sp r body (list_bytes t)
  route_list f b t l =
      let doored = space_doors w cells perms shapes boxes b in
      let back = list_back (route_below sp r body f doored (λ p. steps_whole sp r body f.jump (space_tops w cells perms shapes boxes) doored (point_of p)) l.way) in
      record { whole = list_whole t; route = rw back l }

  module _ (nodes front index out : List ℕ) where
    abbrev answer : Answer
    answer = calls.answer w cells perms shapes boxes r body nodes front index out

    abbrev after : List ℕ
    after = out_after w cells perms shapes boxes r body nodes front index out

    abbrev list : List (Feet × Label)
    list = calls.list w cells perms shapes boxes r body nodes front index out

    front_is : answer.outcome ≡ Found → take (48 * answer.count) after ≡ list_bytes list
    front_is e =
        ap (λ (n : ℕ). take (48 * n) after) (calls.count_of w cells perms shapes boxes r body nodes front index out e)
        ∙ ap (take (48 * length list)) (calls.out_of w cells perms shapes boxes r body nodes front index out e)
        ∙ list_front list (drop (48 * length list) out)

    pub read_back : InF64 r → Bytes cells → answer.outcome ≡ Found → RouteList sp r body (take (48 * answer.count) after)
    read_back f b e = rw (front_is e) (route_list f b list (calls.route_of w cells perms shapes boxes r body nodes front index out e))

    pub accepted : InF64 r → Bytes cells → answer.outcome ≡ Found → walked w cells perms shapes boxes r body (take (48 * answer.count) after) ≡ Ok tt
    accepted f b e =
        a_route_is_yes w cells perms shapes boxes r body (take (48 * answer.count) after)
        (calls.good_world w cells perms shapes boxes r body nodes front index out e)
        (calls.small_sizes w cells perms shapes boxes r body nodes front index out e)
        (read_back f b e)
