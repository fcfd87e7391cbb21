-- `chains::look` meets its contract. The loop's invariant: the nodes before `k` have good parents, and if `all` is true they reach node 0. Assumes nothing.
use Rattle.std.proofs.Common.{arith, ◌≡◌, refl, sym, ◌∙◌, ⊎_elim, get_or, true, false}
use Rattle.exploration.proofs.Laws.Lists.{and_first, and_second}
use Rattle.fields.proofs.RecordLaws.{last_or}
use Rattle.chains.specs.Chains.{good_parent}
use Rattle.chains.specs.Laws.{each_all}
use Rattle.chains.specs.Marks.{Reaches, sound_more, sound_copy, look_good, look_reaches, looked_none}
use Rattle.chains.proofs.look.Goals as goal

pub returns-then-nodes-n : goal.returns-then-nodes-n
returns-then-nodes-n c = looked_none c.requires.1

pub returns-then-not-is_linked : goal.returns-then-not-is_linked
returns-then-not-is_linked c = looked_none c.requires.1

pub loop-k-init : goal.loop-k-init
loop-k-init c = record {
  sound = sound_more c.args.nodes.now c.args.done.now 0 (0, refl) c.requires.1;
  linked = λ j h. (let z : j ≡ 0 = omega arith in rw z (sym c.is_linked.ensures ∙ c.if-not-is_linked.false));
  ended = λ e j h. (0, omega arith);
}

pub near_parent-requires : goal.near_parent-requires
near_parent-requires c = (c.loop-k-test.true, c.requires.0)

pub returns-in_err-parent : goal.returns-in_err-parent
returns-in_err-parent c = rw c.from_residual.ensures (looked_none c.loop-k.invariant.sound)

pub bounds-done-parent : goal.bounds-done-parent
bounds-done-parent c = let p = c.in_ok-parent.ensures in omega (arith, c.requires.0, p.0)

pub loop-k-preserved : goal.loop-k-preserved
loop-k-preserved c =
    let l = c.loop-k in
    let a = c.args in
    let read = c.in_ok-parent.ensures in
    let p = c.in_ok-parent.parent in
    let mark = get_or l.done p false in
    let reaches : mark ≡ true → Reaches a.nodes.now l.k = look_reaches a.nodes.now a.n l.k p (omega arith) read.1 l.done l.invariant.sound in
    let good = look_good a.nodes.now a.n l.k p (omega arith) read.1 read.0 read.2 in
    record {
      sound = sound_copy a.nodes.now l.done l.k mark reaches l.invariant.sound;
      linked = λ j h. ⊎_elim (λ i. l.invariant.linked j i) (λ e. rw e good) (last_or j l.k (omega arith));
      ended = λ e j h. ⊎_elim (λ i. l.invariant.ended (and_first l.all mark e) j i) (λ i. rw i (reaches (and_second l.all mark e))) (last_or j l.k (omega arith));
    }

pub returns : goal.returns
returns c =
    let l = c.loop-k in
    let a = c.args in
    record {
      sound = l.invariant.sound;
      linked = each_all (good_parent a.nodes.now a.n) a.n (λ k h. l.invariant.linked k (omega (arith, c.loop-k-test.false)));
      ended = λ e k h. l.invariant.ended e k (omega (arith, c.loop-k-test.false));
    }
