-- `lists::list` meets its contract. Assumes nothing.
use Rattle.std.proofs.Common.{arith, refl, ap, ◌∙◌, ◌≡◌, ◌+◌, ◌/◌, ◌≤◌, [], ◌∷◌, length, Option, Some, None}
use Rattle.std.specs.Option.{option_to_list, is_some}
use mir.Val.{bool_byte}
use Rattle.rooms.specs.declared.Feet.{Feet}
use Rattle.rooms.specs.declared.Label.{Label}
use Rattle.lists.specs.Laws.{listed_none, listed_full, listed_at, listed_by}
use Rattle.lists.proofs.list.Goals as goal
use Rattle.lists.proofs.list.Goals.{in-Some, in_default}

-- one more point where there is one behind the list
counted : (last : Option (Feet × Label)) → bool_byte (is_some last) ≡ length (option_to_list last)
counted None = refl
counted (Some x) = refl

pub returns-then-nodes-n : goal.returns-then-nodes-n
returns-then-nodes-n c =
    let a = c.args in
    listed_none a.nodes.now a.n a.k (option_to_list a.last) a.out.now (omega arith)

pub returns-then-out-count : goal.returns-then-out-count
returns-then-out-count c =
    let a = c.args in
    let one : c.from.result ≡ length (option_to_list a.last) = cc (counted a.last) in
    listed_full a.nodes.now a.n a.k c.span-m.result (omega (arith, c.if-nodes-n.false)) c.span-m.ensures.0 a.out.now (option_to_list a.last) _ (omega arith) (omega arith)

pub returns : goal.returns
returns c =
    let a = c.args in
    let m = c.span-m.result in
    let inside : a.n ≤ length a.nodes.now / 64 = omega (arith, c.if-nodes-n.false) in
    let one : c.from.result ≡ length (option_to_list a.last) = cc (counted a.last) in
    elim c.match-last.branch [
      | in-Some w ↦
          let p : Feet × Label = (w.in-Some.feet, w.in-Some.label) in
          let e : option_to_list a.last ≡ p ∷ [] = ap option_to_list w.in-Some.is in
          let r : m + c.from.result ≡ m + 1 = omega (arith, one, ap length e) in
          rw (e, r) (listed_by a.nodes.now a.n a.k m inside c.span-m.ensures.0 a.out.now p.0 p.1 c.match-last.out _ (omega (arith, c.if-out-count.false)) (w.out-is ∙ w.put_waypoint.ensures) c.back.ensures)
      | in_default w ↦
          let e : option_to_list a.last ≡ [] = ap option_to_list w.in_default.is in
          let r : m + c.from.result ≡ m = omega (arith, one, ap length e) in
          rw (e, r) (listed_at a.nodes.now a.n a.k m inside c.span-m.ensures.0 a.out.now _ (omega (arith, c.if-out-count.false)) (rw w.out-is at c.back.ensures))
    ]
