-- The record of a scene in 21 words.
use Rattle.std.specs.Prelude.{ℕ, ◌+◌, ◌*◌, ◌<◌, ◌≤◌, ◌≡◌, List, [], ◌∷◌, ◌++◌, length, replicate}
use Rattle.std.proofs.Common.{arith, ap, ◌∙◌, of_z}
use Rattle.std.proofs.Math.Path.{refl}
use mir.Syntax.{w32}
use Rattle.fields.specs.Records.{with_fields, with_words}
use Rattle.fields.proofs.RecordLaws.{halves, record_same, length_record}
use Rattle.scene_state.specs.declared.state.Scene.{Scene}
use Rattle.c_scene.specs.Scenes.{request_fields, body_fields, in_use_fields, scene_layout, scene_fields, with_scene}

-- the six numbers of a window are written by three words
module _ (s vs : List ℕ) (a b c d e f : ℕ) (room : 168 ≤ length s) where
  six : a < 4294967296 → c < 4294967296 → e < 4294967296 →
      with_fields (replicate 7 8) s 0 112 ((a + 4294967296 * b) ∷ (c + 4294967296 * d) ∷ (e + 4294967296 * f) ∷ vs)
      ≡ with_fields (replicate 6 4 ++ replicate 4 8) s 0 112 (a ∷ b ∷ c ∷ d ∷ e ∷ f ∷ vs)
  six h i j =
      halves (replicate 6 8) s 0 112 a b ((c + 4294967296 * d) ∷ (e + 4294967296 * f) ∷ vs) (omega (arith, room)) h
      ∙ halves (replicate 5 8) (with_fields (replicate 2 4) s 0 112 (a ∷ b ∷ [])) 0 120 c d ((e + 4294967296 * f) ∷ vs) (rw length_record (omega (arith, room))) i
      ∙ halves (replicate 4 8) (with_fields (replicate 4 4) s 0 112 (a ∷ b ∷ c ∷ d ∷ [])) 0 128 e f vs (rw length_record (omega (arith, room))) j

-- the record in words: the window's fields two and two
abbrev pub scene_words : Scene → List ℕ
scene_words x =
    let w = x.window in
    request_fields x.request
    ++ (body_fields x.body
    ++ ((of_z w32 w.x + 4294967296 * of_z w32 w.y) ∷ (of_z w32 w.z + 4294967296 * w.sx) ∷ (w.sy + 4294967296 * w.sz) ∷ in_use_fields x.in_use))

module _ (x : Scene) (s : List ℕ) (h : of_z w32 x.window.x < 4294967296) (i : of_z w32 x.window.z < 4294967296) (j : x.window.sy < 4294967296) where
  scene_words_lem : with_words s 0 (scene_words x) ≡ with_scene x s
  unfolding with_scene
  scene_words_lem =
      let w = x.window in
      record_same (replicate 21 8) scene_layout s 0 (scene_words x) (scene_fields x) refl
      (λ room. six (with_fields (replicate 14 8) s 0 0 (request_fields x.request ++ body_fields x.body)) (in_use_fields x.in_use)
      (of_z w32 w.x) (of_z w32 w.y) (of_z w32 w.z) w.sx w.sy w.sz (rw length_record room) h i j)

  pub scene_put : {new words : List ℕ} → words ≡ scene_words x → new ≡ with_words s 0 words → new ≡ with_scene x s
  scene_put e f = f ∙ ap (with_words s 0) e ∙ scene_words_lem
