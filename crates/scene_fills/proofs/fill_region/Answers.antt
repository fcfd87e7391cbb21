-- `scene_fills::fill_region` meets its contract. Assumes nothing.
use Rattle.std.proofs.Common.{List, sym, ap, ◌∙◌}
use mathlib.Core.List.{foldl}
use Rattle.regions.specs.Regions.{to_come}
use Rattle.regions.specs.RegionLaws.{begun, taken, still_proper, fewer, ended}
use Rattle.scene_fills.specs.Fills.{with_cell}
use Rattle.scene_fills.specs.Laws.{few}
use Rattle.scene_fills.proofs.fill_region.Goals as goal

pub loop-next-init : goal.loop-next-init
loop-next-init c =
    let a = c.args in
    let b = begun a.region c.first_in-next.result c.first_in-next.ensures in
    record { proper = b.1; fills = ap (foldl (with_cell a.w.sx a.w.sz a.state a.shape) _) (sym b.0) }

pub number-requires : goal.number-requires
number-requires c = (c.requires.sx, c.requires.sz, few c.args.w c.args.region _ c.requires (rw c.in-Some.is at c.loop-next.invariant.proper))

pub loop-next-smaller : goal.loop-next-smaller
loop-next-smaller c = fewer c.args.region c.loop-next.next c.next_in-next.result _ c.in-Some.is c.loop-next.invariant.proper c.next_in-next.ensures

pub loop-next-preserved : goal.loop-next-preserved
loop-next-preserved c =
    let a = c.args in
    let l = c.loop-next in
    let next = taken a.region l.next c.next_in-next.result _ c.in-Some.is l.invariant.proper c.next_in-next.ensures in
    record {
      proper = still_proper a.region l.next c.next_in-next.result _ c.in-Some.is l.invariant.proper c.next_in-next.ensures;
      fills =
          l.invariant.fills ∙ ap (foldl (with_cell a.w.sx a.w.sz a.state a.shape) l.cells) next
          ∙ ap (λ (t : List _). foldl (with_cell a.w.sx a.w.sz a.state a.shape) t (to_come a.region c.next_in-next.result)) (sym (rw c.number.ensures at c.put_entry.ensures));
    }

pub returns : goal.returns
returns c =
    let a = c.args in
    let l = c.loop-next in
    sym (l.invariant.fills ∙ ap (foldl (with_cell a.w.sx a.w.sz a.state a.shape) l.cells) (ended a.region l.next c.in_default.is))
