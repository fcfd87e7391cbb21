-- What filling the permission table says of its length, and so of the answer.
use Rattle.std.specs.Prelude.{ℕ, ◌≡◌, refl, Bool, true, false, cond, List, eqb, length, Ok, Err}
use Rattle.std.proofs.Common.{arith, ap}
use Rattle.policy.specs.declared.policy.WalkPolicy.{WalkPolicy}
use Rattle.policy.specs.Permission.{filled, permission_table}
use Rattle.world.specs.declared.Point.{Point}
use Rattle.world.specs.declared.Body.{Body}
use Rattle.world.specs.declared.Request.{Request}
use Rattle.world.specs.declared.Window.{Window}
use Rattle.mob_request.specs.Asked.{request_of}
use Rattle.search.specs.FindWalkPath.{found, nodes_after, front_after, index_after, out_after}
use Rattle.outcomes.specs.declared.Answer.{Answer}
use Rattle.outcomes.specs.Outcomes.{Path}
use Rattle.find_path.specs.FindPath.{unless_bad, path, nodes_after_path, front_after_path, index_after_path, out_after_path}

-- it is filled where the tables agree in length
pub agree : (flags perms : List ℕ) → 0 ≡ filled flags perms → eqb (length flags) (length perms) ≡ true
agree flags perms e = go (eqb (length flags) (length perms)) e
  where
    go : (b : Bool) → ◌≡◌ {A = ℕ} 0 (cond b 0 8) → b ≡ true
    go true h = refl
    go false h = absurd (omega arith)

-- and 8 where they differ
pub differ : (flags perms : List ℕ) → 8 ≡ filled flags perms → eqb (length flags) (length perms) ≡ false
differ flags perms e = go (eqb (length flags) (length perms)) e
  where
    go : (b : Bool) → ◌≡◌ {A = ℕ} 8 (cond b 0 8) → b ≡ false
    go true h = absurd (omega arith)
    go false h = refl

module _ {A : Type 0} (flags perms : List ℕ) where
  alike : {z x : A} (y : A) → eqb (length flags) (length perms) ≡ true → z ≡ x → z ≡ unless_bad flags perms x y
  unfolding unless_bad
  alike y e h = rw e h

  unlike : {z : A} (x : A) → eqb (length flags) (length perms) ≡ false → z ≡ unless_bad flags perms x z
  unfolding unless_bad
  unlike x e = rw e

module _ (p : WalkPolicy) (in_water : Bool) (flags : List ℕ) (w : Window) (cells perms shapes boxes : List ℕ) (start goal : Point) (body : Body) (nodes front index out : List ℕ) where
  -- the search with the table as it was filled and the request as it was made
  pub searched : {table : List ℕ} {r : Request} {a : Answer} {b g y x : List ℕ} → eqb (length flags) (length perms) ≡ true
      → table ≡ permission_table p in_water flags perms → r ≡ request_of p start goal body
      → (a ≡ found w cells table shapes boxes r body (length nodes) (length front) (length index) (length out)) × ((b ≡ nodes_after w cells table shapes boxes r body nodes front index out)
      × ((g ≡ front_after w cells table shapes boxes r body nodes front index out) × ((y ≡ index_after w cells table shapes boxes r body nodes front index out)
      × (x ≡ out_after w cells table shapes boxes r body nodes front index out))))
      → (◌≡◌ {A = Path} (Ok a) (path p in_water flags w cells perms shapes boxes start goal body (length nodes) (length front) (length index) (length out)))
      × ((table ≡ permission_table p in_water flags perms) × ((b ≡ nodes_after_path p in_water flags w cells perms shapes boxes start goal body nodes front index out)
      × ((g ≡ front_after_path p in_water flags w cells perms shapes boxes start goal body nodes front index out)
      × ((y ≡ index_after_path p in_water flags w cells perms shapes boxes start goal body nodes front index out)
      × (x ≡ out_after_path p in_water flags w cells perms shapes boxes start goal body nodes front index out)))))
  unfolding path nodes_after_path front_after_path index_after_path out_after_path
  searched {a = a} e i j s = let h = rw (i, j) at s in
      (alike flags perms _ e (let x : ◌≡◌ {A = Path} (Ok a) (Ok (found w cells (permission_table p in_water flags perms) shapes boxes (request_of p start goal body) body (length nodes) (length front) (length index) (length out))) = ap Ok h.0 in x), (i, (alike flags perms _ e h.1.0, (alike flags perms _ e h.1.1.0, (alike flags perms _ e h.1.1.1.0, alike flags perms _ e h.1.1.1.1)))))

  -- nothing but the table is written, and that as its own definition says
  pub unsearched : {table : List ℕ} → eqb (length flags) (length perms) ≡ false → table ≡ permission_table p in_water flags perms
      → (◌≡◌ {A = Path} (Err (record {})) (path p in_water flags w cells perms shapes boxes start goal body (length nodes) (length front) (length index) (length out)))
      × ((table ≡ permission_table p in_water flags perms) × ((nodes ≡ nodes_after_path p in_water flags w cells perms shapes boxes start goal body nodes front index out)
      × ((front ≡ front_after_path p in_water flags w cells perms shapes boxes start goal body nodes front index out)
      × ((index ≡ index_after_path p in_water flags w cells perms shapes boxes start goal body nodes front index out)
      × (out ≡ out_after_path p in_water flags w cells perms shapes boxes start goal body nodes front index out)))))
  unfolding path nodes_after_path front_after_path index_after_path out_after_path
  unsearched e i = (unlike flags perms _ e, (i, (unlike flags perms _ e, (unlike flags perms _ e, (unlike flags perms _ e, unlike flags perms _ e)))))
