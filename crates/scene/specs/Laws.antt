-- What a record of each kind leaves in the tables; and `begin`, then `take_record` for each record, then `end`, is the scene reader's fold. Assumes nothing.
use Rattle.std.specs.Prelude.{ℕ, set, ◌≡◌, refl, Bool, true, false, List, [], ◌∷◌}
use borrow.Author.Tests.{ne_eqb}
use Rattle.std.proofs.Math.Path.{sym, ap}
use Rattle.std.proofs.Common.{◌∙◌}
use Rattle.scene_state.specs.declared.state.Reading.{Reading}
use Rattle.scene_state.specs.Answers.{Answer, given, refused, begun, scene_of}
use Rattle.scene_records.specs.Layout.{kind_of, number_of, permission_of}
use Rattle.scene_tables.specs.Made.{unfilled, with_shape, with_box}
use Rattle.scene_fills.specs.Fills.{filled}
use Rattle.scene_step.specs.Next.{next, good_in, step}
use Rattle.scene_step.specs.Laws.{cells_counted, last_counted}
use Rattle.scene.specs.Scene.{cells_after, perms_after, shapes_after, boxes_after, cells_read, perms_read, shapes_read, boxes_read, Tables, tables_read, read_from, onward, read_all}
use Rattle.scene.specs.Progress.{further, tables_further, taken_in}

-- ---- one record: the tables that the code leaves are those that the record makes

module _ (r : Reading) (s c p h b : List ℕ) where
  abbrev Made : List ℕ → List ℕ → List ℕ → List ℕ → Type 0
  Made c' p' h' b' = (c' ≡ cells_read r s c) × ((p' ≡ perms_read r s p) × ((h' ≡ shapes_read r s h) × (b' ≡ boxes_read r s b)))

  pub made_by_bad : good_in r s ≡ false → Made c p h b
  unfolding cells_read perms_read shapes_read boxes_read
  made_by_bad g = (rw g, (rw g, (rw g, rw g)))

  -- a good one leads to the state r'
  module _ {r' : Reading} (g : good_in r s ≡ true) (e : r' ≡ next (kind_of s) r s) where
    of_kind : {k : ℕ} → r'.kind ≡ k → kind_of s ≡ k
    unfolding next
    of_kind l = sym (ap (λ (x : Reading). x.kind) e) ∙ l

    pub made_by_window : r'.kind ≡ 3 → {c' : List ℕ} → c' ≡ unfilled r'.counts.cells c → Made c' p h b
    unfolding cells_read perms_read shapes_read boxes_read cells_after perms_after shapes_after boxes_after
    made_by_window l w =
        let k = of_kind l in
        let n = ap (λ (x : Reading). x.counts.cells) e ∙ cells_counted (kind_of s) r s k in
        (rw (g, k, ← n) w, (rw (g, k), (rw (g, k), rw (g, k))))

    pub made_by_box : r'.kind ≡ 4 → {n : ℕ} {h' b' : List ℕ} → n ≡ number_of s →
        h' ≡ with_shape r.counts.shapes n r.counts.boxes r'.counts.last h → b' ≡ with_box s r.counts.boxes b → Made c p h' b'
    unfolding cells_read perms_read shapes_read boxes_read cells_after perms_after shapes_after boxes_after
    made_by_box l n v w =
        let k = of_kind l in
        let m = ap (λ (x : Reading). x.counts.last) e ∙ last_counted (kind_of s) r s k in
        (rw (g, k), (rw (g, k), (rw (g, k, ← m, ← n) v, rw (g, k) w)))

    pub made_by_state : r'.kind ≡ 5 → {n m : ℕ} {p' : List ℕ} → n ≡ number_of s → m ≡ permission_of s → p' ≡ set p n m → Made c p' h b
    unfolding cells_read perms_read shapes_read boxes_read cells_after perms_after shapes_after boxes_after
    made_by_state l n m w = let k = of_kind l in (rw (g, k), (rw (g, k, ← n, ← m) w, (rw (g, k), rw (g, k))))

    pub made_by_fill : r'.kind ≡ 6 → {c' : List ℕ} → c' ≡ filled r.window s c → Made c' p h b
    unfolding cells_read perms_read shapes_read boxes_read cells_after perms_after shapes_after boxes_after
    made_by_fill l w = let k = of_kind l in (rw (g, k) w, (rw (g, k), (rw (g, k), rw (g, k))))

    pub made_by_other : (r'.kind ≡ 3 → ⊥) → (r'.kind ≡ 4 → ⊥) → (r'.kind ≡ 5 → ⊥) → (r'.kind ≡ 6 → ⊥) → Made c p h b
    unfolding next cells_read perms_read shapes_read boxes_read cells_after perms_after shapes_after boxes_after
    made_by_other d3 d4 d5 d6 =
        let is = ap (λ (x : Reading). x.kind) e in
        let n4 = ne_eqb (kind_of s) 4 (λ l. d4 (is ∙ l)) in
        (rw (g, ne_eqb (kind_of s) 3 (λ l. d3 (is ∙ l)), ne_eqb (kind_of s) 6 (λ l. d6 (is ∙ l))), (rw (g, ne_eqb (kind_of s) 5 (λ l. d5 (is ∙ l))), (rw (g, n4), rw (g, n4))))

-- ---- all records

-- a good record is left behind, and a bad one writes nothing
one_more : (r : Reading) (s : List ℕ) (t : Tables) (ss : List (List ℕ)) (b : Bool) → good_in r s ≡ b →
    onward (step r s) (tables_read r s t) ss ≡ read_from r t (s ∷ ss)
unfolding onward step read_from cells_read perms_read shapes_read boxes_read
one_more r s t ss true e = rw e
one_more r s t ss false e = rw e

taken_onward : (a : Answer Reading) (t : Tables) (ss : List (List ℕ)) → taken_in a t ss ≡ onward a t ss
unfolding taken_in further tables_further scene_of onward read_from
taken_onward (given r) t [] = refl
taken_onward (given r) t (s ∷ ss) = taken_onward (step r s) (tables_read r s t) ss ∙ one_more r s t ss (good_in r s) refl
taken_onward (refused n k) t [] = refl
taken_onward (refused n k) t (s ∷ ss) = taken_onward (refused n k) t ss

-- `begin`, then `take_record` for each record, then `end`, is `read_all`
pub takes_whole : (t : Tables) (ss : List (List ℕ)) (a : Answer Reading) → a ≡ begun t.cells t.perms t.shapes t.boxes → taken_in a t ss ≡ read_all t ss
unfolding read_all
takes_whole t ss a e = rw (← e) (taken_onward a t ss)
