-- One record written is the record of the definition: it is read back, and every other record is as it was.
use Rattle.std.specs.Prelude.{◌≡◌, ◌≢◌, ◌⊎◌, ℕ, zero, suc, ◌+◌, ◌*◌, ◌<◌, ◌≤◌, length, replicate}
use Rattle.std.proofs.Math.Path.{refl, ap, subst}
use Rattle.std.proofs.Common.{sym, ◌∙◌, ⊎_elim, arith}
use mathlib.Core.List.{List, [], ◌∷◌}
use Rattle.std.proofs.Math.Logic.{inl, inr}
use Rattle.fields.specs.Records.{with_fields, with_words, Fill}
use Rattle.fields.proofs.RecordLaws.{record_in, record_same, halves, length_record, record_back, record_apart, drop_record}
use Rattle.rooms.specs.declared.NodeRecord.{NodeRecord}
use Rattle.rooms.specs.declared.Entry.{Entry}
use Rattle.rooms.specs.Records.{node_layout, node_words, node_from, node_at, with_node, entry_layout, entry_words, entry_from, entry_at, with_entry}
use Rattle.rooms.specs.Writes.{WroteNode, PutNode, WroteEntry, PutEntry}

-- a node in eight words: the last one is its two last fields
abbrev pub as_words : NodeRecord → List ℕ
as_words r = r.feet.x ∷ r.feet.y ∷ r.feet.z ∷ r.label.lift ∷ r.label.movement ∷ r.label.door ∷ r.cost ∷ (r.parent + 4294967296 * r.closed) ∷ []

apart : (k j : ℕ) → j ≢ k → (j < k) ⊎ (k < j)
apart zero zero h = absurd (h refl)
apart zero (suc j) h = inr (omega arith)
apart (suc k) zero h = inl (omega arith)
apart (suc k) (suc j) h = ⊎_elim (λ l. inl (omega arith)) (λ l. inr (omega arith)) (apart k j (λ e. h (ap suc e)))

module _ (a : List ℕ) (k : ℕ) (r : NodeRecord) where
  wrote_node : Fill node_layout (node_words r) → 64 * k + 64 ≤ length a → WroteNode a k r (with_fields node_layout a (64 * k) 0 (node_words r))
  unfolding node_at
  wrote_node fill room = record {
    here = ap node_from (record_back node_layout a (64 * k) 0 (node_words r) fill (omega arith));
    there = λ j h. ap node_from (record_apart node_layout a (64 * k) 0 (node_words r) node_layout (64 * j) 0 (⊎_elim (λ l. inl (omega arith)) (λ l. inr (omega arith)) (apart k j h)));
    past = λ m h. drop_record node_layout a (64 * k) 0 (node_words r) (64 * m) (omega arith);
  }

  words_are : r.parent < 4294967296 → with_words a k (as_words r) ≡ with_node a k r
  unfolding with_node
  words_are h = record_same (replicate 8 8) node_layout a (64 * k) (as_words r) (node_words r) refl
      (λ room. halves [] (with_fields (replicate 7 8) a (64 * k) 0 (as_words r)) (64 * k) 56 r.parent r.closed [] (rw length_record (omega (arith, room))) h)

  pub put_node : {b : List ℕ} → Fill node_layout (node_words r) → b ≡ with_words a k (as_words r) → PutNode a k r b
  unfolding with_node
  put_node fill e =
      let is = e ∙ words_are fill.1.1.1.1.1.1.1.0 in
      record { is = is; wrote = λ room. subst (WroteNode a k r) (sym (is ∙ record_in node_layout a (64 * k) (node_words r) room)) (wrote_node fill room) }

module _ (a : List ℕ) (k : ℕ) (e : Entry) where
  wrote_entry : Fill entry_layout (entry_words e) → 24 * k + 24 ≤ length a → WroteEntry a k e (with_fields entry_layout a (24 * k) 0 (entry_words e))
  unfolding entry_at
  wrote_entry fill room = record {
    here = ap entry_from (record_back entry_layout a (24 * k) 0 (entry_words e) fill (omega arith));
    there = λ j h. ap entry_from (record_apart entry_layout a (24 * k) 0 (entry_words e) entry_layout (24 * j) 0 (⊎_elim (λ l. inl (omega arith)) (λ l. inr (omega arith)) (apart k j h)));
    past = λ m h. drop_record entry_layout a (24 * k) 0 (entry_words e) (24 * m) (omega arith);
  }

  pub put_entry : {b : List ℕ} → Fill entry_layout (entry_words e) → b ≡ with_entry a k e → PutEntry a k e b
  unfolding with_entry
  put_entry fill is = record { is = is; wrote = λ room. subst (WroteEntry a k e) (sym (is ∙ record_in entry_layout a (24 * k) (entry_words e) room)) (wrote_entry fill room) }
