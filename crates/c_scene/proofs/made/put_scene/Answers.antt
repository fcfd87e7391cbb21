-- `c_scene::made::put_scene` meets its contract. Assumes nothing.
use Rattle.std.proofs.Common.{◌≡◌, ◌∙◌, [], ◌∷◌, ◌+◌, ◌*◌, rules, w32, Fits, SFits, of_z, to_z-of_z}
use mir.Facts.{Fits-of_z}
use Rattle.c_scene.specs.Laws.{scene_put}
use Rattle.c_scene.proofs.made.put_scene.Goals as goal

pub returns : goal.returns
returns c =
    let a = c.args in
    let r = a.x.request in
    let w = a.x.window in
    let u = a.x.in_use in
    let fx : SFits w32 w.x = search rules in
    let fy : SFits w32 w.y = search rules in
    let fz : SFits w32 w.z = search rules in
    let fs : Fits w32 w.sy = search rules in
    let x = rw (to_z-of_z fx) at c.signed_bits.ensures in
    let y = rw (to_z-of_z fy) at c.signed_bits-2.ensures in
    let z = rw (to_z-of_z fz) at c.signed_bits-3.ensures in
    let first : c.word.result ≡ of_z w32 w.x + 4294967296 * of_z w32 w.y = c.word.ensures ∙ (λ i. x i + 4294967296 * y i) in
    let second : c.word-2.result ≡ of_z w32 w.z + 4294967296 * w.sx = c.word-2.ensures ∙ (λ i. z i + 4294967296 * w.sx) in
    scene_put a.x a.made.now (Fits-of_z fx).fits (Fits-of_z fz).fits fs.fits
    (λ i. c.bits_of.ensures i ∷ c.bits_of-2.ensures i ∷ c.bits_of-3.ensures i ∷ c.bits_of-4.ensures i ∷ c.bits_of-5.ensures i ∷ c.bits_of-6.ensures i ∷ c.bits_of-7.ensures i ∷ c.bits_of-8.ensures i ∷ c.bits_of-9.ensures i ∷ c.bits_of-10.ensures i ∷ r.node_budget ∷ c.bits_of-11.ensures i ∷ c.bits_of-12.ensures i ∷ c.bits_of-13.ensures i ∷ first i ∷ second i ∷ c.word-3.ensures i ∷ u.cells ∷ u.perms ∷ u.shapes ∷ u.boxes ∷ [])
    c.put_record.ensures
