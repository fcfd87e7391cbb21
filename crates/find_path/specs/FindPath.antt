-- What `find_path` answers and what it leaves in the lent slices (01, Policy). Definitions only: the policy's and the search's, one behind the other.
use Rattle.std.specs.Prelude.{ℕ, Bool, cond, List, eqb, length, Ok, Err}
use Rattle.policy.specs.declared.policy.WalkPolicy.{WalkPolicy}
use Rattle.policy.specs.Permission.{permission_table}
use Rattle.world.specs.declared.Point.{Point}
use Rattle.world.specs.declared.Body.{Body}
use Rattle.world.specs.declared.Window.{Window}
use Rattle.mob_request.specs.Asked.{request_of}
use Rattle.search.specs.FindWalkPath.{found, nodes_after, front_after, index_after, out_after}
use Rattle.outcomes.specs.Outcomes.{Path}

-- "8 BadTable: flag and permission tables differ in length", and else
unfoldable pub unless_bad : {A : Type 0} → List ℕ → List ℕ → A → A → A
unless_bad flags perms searched bad = cond (eqb (length flags) (length perms)) searched bad

module _
    (p : WalkPolicy)
    (in_water : Bool)
    (flags : List ℕ)
    (w : Window)
    (cells perms shapes boxes : List ℕ)
    (start goal : Point)
    (body : Body)
  where
    -- "It judges 8, fills the permission table, which stays filled, then searches in the order above": the search with the filled table
    unfoldable pub path : (nodes front index out : ℕ) → Path
    path nodes front index out =
        unless_bad flags perms
        (Ok (found w cells (permission_table p in_water flags perms) shapes boxes (request_of p start goal body) body nodes front index out))
        (Err (record {}))

    -- "6, 8 and 9 write nothing", and the search leaves what its own definitions say
    unfoldable pub nodes_after_path : (nodes front index out : List ℕ) → List ℕ
    nodes_after_path nodes front index out =
        unless_bad flags perms (nodes_after w cells (permission_table p in_water flags perms) shapes boxes (request_of p start goal body) body nodes front index out) nodes

    unfoldable pub front_after_path : (nodes front index out : List ℕ) → List ℕ
    front_after_path nodes front index out =
        unless_bad flags perms (front_after w cells (permission_table p in_water flags perms) shapes boxes (request_of p start goal body) body nodes front index out) front

    unfoldable pub index_after_path : (nodes front index out : List ℕ) → List ℕ
    index_after_path nodes front index out =
        unless_bad flags perms (index_after w cells (permission_table p in_water flags perms) shapes boxes (request_of p start goal body) body nodes front index out) index

    unfoldable pub out_after_path : (nodes front index out : List ℕ) → List ℕ
    out_after_path nodes front index out =
        unless_bad flags perms (out_after w cells (permission_table p in_water flags perms) shapes boxes (request_of p start goal body) body nodes front index out) out
