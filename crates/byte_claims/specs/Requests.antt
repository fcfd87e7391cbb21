-- Every request that is read from bytes is one of f64s (`InF64`): a C caller's, a mob's, and a scene's.
use Rattle.std.specs.Prelude.{ℕ, Bool, true, false, ◌&&◌, cond, List, [], ◌∷◌, ◌≢◌, T, eqb, leb, ltb, pos, length}
use Rattle.std.proofs.Common.{arith}
use Rattle.std.specs.Float.{binary64}
use Rattle.std.specs.Float.Ieee.{fits}
use Rattle.std.specs.Float.Ieee.Bits.{of_bits-fits}
use Rattle.std.specs.Float.Ieee.Fits.{cond-fits, of_int-fits}
use Rattle.fields.specs.Little.{field, float_field}
use Rattle.world.specs.declared.Point.{Point}
use Rattle.world.specs.declared.Body.{Body}
use Rattle.world.specs.declared.Request.{Request}
use Rattle.world.specs.Space.{point_at}
use Rattle.policy.specs.declared.policy.WalkPolicy.{WalkPolicy}
use Rattle.mob_request.specs.Asked.{request_of}
use Rattle.scene_records.specs.Layout.{kind_of}
use Rattle.scene_state.specs.declared.state.Reading.{Reading}
use Rattle.scene_state.specs.declared.state.Scene.{Scene}
use Rattle.scene_state.specs.State.{empty, in_use}
use Rattle.scene_state.specs.Answers.{Answer, given, refused, begun, ended}
use Rattle.scene_step.specs.Next.{request_after, next, good_in}
use Rattle.scene.specs.Scene.{Tables, tables_read, Read, read_from, onward, read_all}
use Rattle.c_records.specs.Records.{request_in}
use Rattle.c_records.specs.Asked.{all_whole, no_point, no_request, asked, end_in}
use Rattle.claims.specs.Words.{InF64}

-- ---- the f64s of bytes

field_fits : (s : List ℕ) (at : ℕ) → T (fits binary64 (float_field s at))
unfolding float_field
field_fits s at = of_bits-fits binary64 (field 8 s at)

pub record PointFits (p : Point) : Type 0 where
  pub x : T (fits binary64 p.x)
  pub y : T (fits binary64 p.y)
  pub z : T (fits binary64 p.z)

point_fits : (s : List ℕ) (at : ℕ) → PointFits (point_at s at)
unfolding point_at
point_fits s at = record { x = field_fits s _; y = field_fits s _; z = field_fits s _ }

-- a request by its two ends and its jump
pub by_ends : (r : Request) → PointFits r.start → PointFits r.goal → T (fits binary64 r.jump_height) → InF64 r
by_ends r s g j = record { start_x = s.x; start_y = s.y; start_z = s.z; goal_x = g.x; goal_y = g.y; goal_z = g.z; jump = j }

-- of two, whichever is taken
pub either : {A : Type 0} (P : A → Type 0) (b : Bool) (x y : A) → P x → P y → P (cond b x y)
either P true x y f g = f
either P false x y f g = g

-- ---- a C caller's

request_in_f64 : (s : List ℕ) → InF64 (request_in s)
unfolding request_in
request_in_f64 s = by_ends _ (point_fits s 0) (point_fits s 24) (field_fits s 64)

-- NaN is an f64 too, and so it is of records that are cut short
nowhere_fits : PointFits no_point
unfolding no_point fits
nowhere_fits = record { x = tt; y = tt; z = tt }

pub asked_in_f64 : (window request body : List ℕ) → InF64 (asked window request body)
unfolding asked no_request
asked_in_f64 window request body = either InF64 (all_whole window request 88 body) _ _ (request_in_f64 request) (by_ends _ nowhere_fits nowhere_fits (of_bits-fits binary64 0))

pub end_fits : (whole : Bool) (ends : List ℕ) (at : ℕ) → PointFits (end_in whole ends at)
unfolding end_in
end_fits whole ends at = either PointFits whole _ _ (point_fits ends at) nowhere_fits

-- ---- a mob's, between two points

pub mob_request_in_f64 : (p : WalkPolicy) (start goal : Point) (body : Body) → T (fits binary64 p.jump_height) → PointFits start → PointFits goal →
    InF64 (request_of p start goal body)
unfolding request_of
mob_request_in_f64 p start goal body j s g = by_ends _ s g (cond-fits binary64 p.can_jump _ _ j (of_int-fits binary64 (pos 0)))

-- ---- a scene's, record by record

after_in_f64 : (k : ℕ) (r : Request) (s : List ℕ) → InF64 r → InF64 (request_after k r s)
unfolding request_after
after_in_f64 k r s f =
    either InF64 (eqb k 1) _ _ (by_ends _ (point_fits s 8) (point_fits s 32) f.jump)
    (either InF64 (eqb k 2) _ _
    (record { start_x = f.start_x; start_y = f.start_y; start_z = f.start_z; goal_x = f.goal_x; goal_y = f.goal_y; goal_z = f.goal_z; jump = field_fits s 16 })
    f)

empty_in_f64 : InF64 empty.request
unfolding empty
empty_in_f64 =
    let zero = of_bits-fits binary64 0 in
    record { start_x = zero; start_y = zero; start_z = zero; goal_x = zero; goal_y = zero; goal_z = zero; jump = zero }

-- the reader's answer: a scene whose request is one, or a refusal with a number of its own
abbrev pub Sound : Answer Scene → Type 0
Sound (given s) = InF64 s.request
Sound (refused n k) = n ≢ 0

ended_sound : (r : Reading) → InF64 r.request → Sound (ended r)
unfolding ended
ended_sound r f = go (ltb r.kind 3)
  where
    go : (b : Bool) → Sound (cond b (refused 7 r.number) (given (record { request = r.request; body = r.body; window = r.window; in_use = in_use r.counts })))
    go true = λ e. omega arith
    go false = f

from_sound : (r : Reading) (t : Tables) (ss : List (List ℕ)) → InF64 r.request → Sound (read_from r t ss).answer
unfolding read_from next
from_sound r t [] f = ended_sound r f
from_sound r t (s ∷ ss) f =
    go (read_from (next (kind_of s) r s) (tables_read r s t) ss) (good_in r s)
    (from_sound (next (kind_of s) r s) (tables_read r s t) ss (after_in_f64 (kind_of s) r.request s f))
  where
    go : (x : Read) (b : Bool) → Sound x.answer → Sound (cond b x (record { answer = refused 7 r.number; tables = t })).answer
    go x true h = h
    go x false h = λ e. omega arith

pub scene_in_f64 : (t : Tables) (ss : List (List ℕ)) → Sound (read_all t ss).answer
unfolding read_all begun onward
scene_in_f64 t ss = go (leb 32768 (length t.cells) && leb 256 (length t.perms) && leb 2048 (length t.shapes) && leb 12288 (length t.boxes))
  where
    go : (b : Bool) → Sound (onward (cond b (given empty) (refused 5 0)) t ss).answer
    go true = from_sound empty t ss empty_in_f64
    go false = λ e. omega arith
