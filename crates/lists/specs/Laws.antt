-- The list of the node room, turn by turn: counted back from its last node, and written from its end.
use Rattle.std.specs.Prelude.{◌≡◌, refl, ℕ, zero, suc, ◌+◌, ◌*◌, ◌/◌, ◌-◌, ◌≤◌, ◌<◌, take}
use Rattle.std.proofs.Math.Path.{sym, ap}
use Rattle.std.proofs.Common.{◌∙◌, ⊎_elim, arith, add-zero, take-append-drop, take-take, drop_at, length-take-le, Fits}
use mathlib.Core.List.{List, [], ◌∷◌, ◌++◌, append_assoc, append-nil, reverse_aux}
use Rattle.std.proofs.Math.ListN.{length, drop, length-reverse_aux}
use Rattle.std.proofs.lemmas.List.{take-append-le}
use borrow.Author.Tests.{le-leb, lt-leb}
use Rattle.std.specs.Int.{w64}
use Rattle.fields.proofs.RecordLaws.{record_in, with_record_is}
use Rattle.rooms.specs.declared.Feet.{Feet}
use Rattle.rooms.specs.declared.Label.{Label}
use Rattle.rooms.specs.Records.{waypoint_layout, waypoint_words, with_waypoint, node_at}
use Rattle.rooms.specs.Lists.{node_waypoint, walk, list_of, waypoint_bytes, list_bytes, written, Listed}
use Rattle.rooms.proofs.Laws.Lists.{walk_on, walk_off, in_or_out}

-- ---- in a loop that counts

pub next_fits : {m n : ℕ} → m < n → Fits w64 n → Fits w64 (m + 1)
next_fits h f = omega arith

pub count_on : (a : List ℕ) (n k m at : ℕ) → m < n → at < n → length (walk n a n k) ≡ m + length (walk (n - m) a n at) → length (walk n a n k) ≡ m + 1 + length (walk (n - (m + 1)) a n (node_at a at).parent)
count_on a n k m at h l e = omega (arith, e, ap length (walk_on (n - m) (n - (m + 1)) a n at (omega arith) l))

pub count_off : (a : List ℕ) (n k m at : ℕ) → n ≤ at → length (walk n a n k) ≡ m + length (walk (n - m) a n at) → m ≡ length (walk n a n k)
count_off a n k m at l e = omega (arith, e, ap length (walk_off (n - m) a n at l))

pub count_out : (a : List ℕ) (n k m at : ℕ) → n ≤ m → length (walk n a n k) ≡ m + length (walk (n - m) a n at) → m ≡ length (walk n a n k)
count_out a n k m at l e = let z : n - m ≡ 0 = omega arith in omega (arith, e, ap (λ (i : ℕ). length (walk i a n at)) z)

pub count_none : (a : List ℕ) (n k : ℕ) → length (walk n a n k) ≡ 0 + length (walk (n - 0) a n k)
count_none a n k = let z : n ≡ n - 0 = omega arith in omega (arith, ap (λ (i : ℕ). length (walk i a n k)) z)

-- ---- in a loop that writes

pub waypoint_is : (s : List ℕ) (j : ℕ) (p : Feet) (l : Label) → 48 * j + 48 ≤ length s → with_waypoint s j p l ≡ take (48 * j) s ++ (waypoint_bytes (p, l) ++ drop (48 * j + 48) s)
unfolding with_waypoint
waypoint_is s j p l h = let z = add-zero (48 * j) in record_in waypoint_layout s (48 * j) (waypoint_words p l) h ∙ with_record_is waypoint_layout s (48 * j) 0 (waypoint_words p l) refl (omega arith) ∙ rw z

-- in a room for m points, the one before point j has its place
pub place_before : {j m old out : ℕ} → 0 < j → j ≤ m → 48 * m ≤ old → out ≡ old → 48 * (j - 1) + 48 ≤ out
place_before h i room e = omega arith

-- all but the first j points are written
pub record Backed (a : List ℕ) (n k m : ℕ) (old : List ℕ) (j at : ℕ) (out : List ℕ) : Type 0 where
  pub fuel : ℕ
  pub done : List (Feet × Label)
  pub split : reverse_aux (walk n a n k) [] ≡ reverse_aux (walk fuel a n at) done
  pub left : length (walk fuel a n at) ≡ j
  pub bytes : out ≡ take (48 * j) old ++ (list_bytes done ++ drop (48 * m) old)

module _ (a : List ℕ) (n k m : ℕ) (old : List ℕ) (room : 48 * m ≤ length old) where
  pub backed_none : m ≡ length (walk n a n k) → Backed a n k m old m k old
  backed_none e = record { fuel = n; done = []; split = refl; left = sym e; bytes = sym (take-append-drop (48 * m) old) }

  pub backed_in : {j at : ℕ} {out : List ℕ} → 0 < j → Backed a n k m old j at out → at < n
  backed_in {j} {at} h b = ⊎_elim (λ l. l) (λ l. absurd (omega (arith, b.left, ap length (walk_off b.fuel a n at l)))) (in_or_out at n)

  more : (f : ℕ) {j at : ℕ} {out new : List ℕ} (done : List (Feet × Label)) → j < m → at < n → reverse_aux (walk n a n k) [] ≡ reverse_aux (walk f a n at) done → length (walk f a n at) ≡ j + 1 →
      out ≡ take (48 * (j + 1)) old ++ (list_bytes done ++ drop (48 * m) old) → new ≡ take (48 * j) out ++ (waypoint_bytes (node_waypoint a at) ++ drop (48 * j + 48) out) → Backed a n k m old j (node_at a at).parent new
  more zero done h i s l b w = absurd (omega arith)
  more (suc f) {j} {at} {out} {new} done h i s l b w = record {
    fuel = f;
    done = node_waypoint a at ∷ done;
    split = s ∙ ap (λ (x : List (Feet × Label)). reverse_aux x done) step;
    left = omega (arith, l, ap length step);
    bytes = w ∙ ap (λ (x : List ℕ). x ++ (waypoint_bytes (node_waypoint a at) ++ drop (48 * j + 48) out)) front ∙ ap (λ (x : List ℕ). take (48 * j) old ++ (waypoint_bytes (node_waypoint a at) ++ x)) past ∙ ap (λ (x : List ℕ). take (48 * j) old ++ x) (sym (append_assoc (waypoint_bytes (node_waypoint a at)) (list_bytes done) (drop (48 * m) old)));
  }
    where
      step : walk (suc f) a n at ≡ node_waypoint a at ∷ walk f a n (node_at a at).parent
      step = walk_on (suc f) f a n at refl i

      long : length (take (48 * (j + 1)) old) ≡ 48 * (j + 1)
      long = length-take-le (48 * (j + 1)) old (omega arith)

      front : take (48 * j) out ≡ take (48 * j) old
      front = ap (take (48 * j)) b ∙ take-append-le (48 * j) (take (48 * (j + 1)) old) (list_bytes done ++ drop (48 * m) old) (omega (arith, long)) ∙ take-take (48 * j) (48 * (j + 1)) old (omega arith)

      past : drop (48 * j + 48) out ≡ list_bytes done ++ drop (48 * m) old
      past = ap (drop (48 * j + 48)) b ∙ drop_at (take (48 * (j + 1)) old) (list_bytes done ++ drop (48 * m) old) (48 * j + 48) (omega (arith, long))

  pub backed_more : {j at : ℕ} {out new : List ℕ} → 0 < j → j ≤ m → Backed a n k m old j at out → new ≡ take (48 * (j - 1)) out ++ (waypoint_bytes (node_waypoint a at) ++ drop (48 * (j - 1) + 48) out) → Backed a n k m old (j - 1) (node_at a at).parent new
  backed_more {j} {at} {out} {new} h i b w = let e : j ≡ j - 1 + 1 = omega arith in more b.fuel {out = out} b.done (omega arith) (backed_in h b) b.split (b.left ∙ e) (b.bytes ∙ ap (λ (x : ℕ). take (48 * x) old ++ (list_bytes b.done ++ drop (48 * m) old)) e) w

  pub backed_all : {j at : ℕ} {out : List ℕ} → j ≡ 0 → Backed a n k m old j at out → out ≡ list_bytes (reverse_aux (walk n a n k) []) ++ drop (48 * m) old
  backed_all {j} {at} e b = b.bytes ∙ ap (λ (x : ℕ). take (48 * x) old ++ (list_bytes b.done ++ drop (48 * m) old)) e ∙ ap (λ (x : List (Feet × Label)). list_bytes x ++ drop (48 * m) old) (sym (b.split ∙ ap (λ (x : List (Feet × Label)). reverse_aux x b.done) (empty (walk b.fuel a n at) (b.left ∙ e))))
    where
      empty : (l : List (Feet × Label)) → length l ≡ 0 → l ≡ []
      empty [] h = refl
      empty (x ∷ l) h = absurd (omega arith)

-- ---- the whole list

list_append : (l r : List (Feet × Label)) → list_bytes (l ++ r) ≡ list_bytes l ++ list_bytes r
list_append [] r = refl
list_append (x ∷ l) r = ap (λ (y : List ℕ). waypoint_bytes x ++ y) (list_append l r) ∙ sym (append_assoc (waypoint_bytes x) (list_bytes l) (list_bytes r))

aux_append : (l r : List (Feet × Label)) → reverse_aux l r ≡ reverse_aux l [] ++ r
aux_append [] r = refl
aux_append (x ∷ l) r = aux_append l (x ∷ r) ∙ sym (ap (λ (y : List (Feet × Label)). y ++ r) (aux_append l (x ∷ [])) ∙ append_assoc (reverse_aux l []) (x ∷ []) r)

-- where the room has fewer nodes
pub listed_none : (a : List ℕ) (n k : ℕ) (t : List (Feet × Label)) (old : List ℕ) → length a / 64 < n → Listed a n k t 0 old old
unfolding list_of written
listed_none a n k t old h = let e = lt-leb n (length a / 64) h in let z = le-leb 0 (length old / 48) (omega arith) in record { count = rw e; bytes = rw (e, z) }

module _ (a : List ℕ) (n k m : ℕ) (inside : n ≤ length a / 64) (e : m ≡ length (walk n a n k)) (old : List ℕ) where
  count_of : (t : List (Feet × Label)) → length (reverse_aux (walk n a n k) t) ≡ m + length t
  count_of t = omega (arith, e, length-reverse_aux (walk n a n k) t)

  -- no room for it
  pub listed_full : (t : List (Feet × Label)) (r : ℕ) → r ≡ m + length t → length old / 48 < r → Listed a n k t r old old
  unfolding list_of written
  listed_full t r i h =
      let p = le-leb n (length a / 64) inside in
      let q = lt-leb (length (reverse_aux (walk n a n k) t)) (length old / 48) (omega (arith, count_of t)) in
      record { count = rw p (i ∙ sym (count_of t)); bytes = rw (p, q) }

  listed : (t : List (Feet × Label)) (r : ℕ) (out : List ℕ) → r ≡ m + length t → r ≤ length old / 48 → out ≡ list_bytes (reverse_aux (walk n a n k) t) ++ drop (48 * r) old → Listed a n k t r old out
  unfolding list_of written
  listed t r out i h b =
      let p = le-leb n (length a / 64) inside in
      let q = le-leb (length (reverse_aux (walk n a n k) t)) (length old / 48) (omega (arith, count_of t)) in
      let z : r ≡ length (reverse_aux (walk n a n k) t) = i ∙ sym (count_of t) in
      record { count = rw p z; bytes = rw (p, q) (b ∙ ap (λ (x : ℕ). list_bytes (reverse_aux (walk n a n k) t) ++ drop (48 * x) old) z) }

  pub listed_at : (out : List ℕ) → m ≤ length old / 48 → out ≡ list_bytes (reverse_aux (walk n a n k) []) ++ drop (48 * m) old → Listed a n k [] m old out
  listed_at out h b = listed [] m out (omega arith) h b

  pub listed_by : (goal : Feet) (label : Label) (mid out : List ℕ) → m < length old / 48 → mid ≡ with_waypoint old m goal label →
      out ≡ list_bytes (reverse_aux (walk n a n k) []) ++ drop (48 * m) mid → Listed a n k ((goal, label) ∷ []) (m + 1) old out
  listed_by goal label mid out h u b = listed ((goal, label) ∷ []) (m + 1) out refl (omega arith)
      (b ∙ ap (λ (x : List ℕ). list_bytes (reverse_aux (walk n a n k) []) ++ x) (ap (drop (48 * m)) (u ∙ waypoint_is old m goal label (omega arith)) ∙ drop_at (take (48 * m) old) (waypoint_bytes (goal, label) ++ drop (48 * m + 48) old) (48 * m) (length-take-le (48 * m) old (omega arith)) ∙ ap (λ (x : ℕ). waypoint_bytes (goal, label) ++ drop x old) past)
      ∙ sym (append_assoc (list_bytes (reverse_aux (walk n a n k) [])) (waypoint_bytes (goal, label)) (drop (48 * (m + 1)) old))
      ∙ ap (λ (x : List ℕ). x ++ drop (48 * (m + 1)) old) (ap (λ (x : List ℕ). list_bytes (reverse_aux (walk n a n k) []) ++ x) (sym (append-nil (waypoint_bytes (goal, label)))) ∙ sym (list_append (reverse_aux (walk n a n k) []) ((goal, label) ∷ [])) ∙ ap list_bytes (sym (aux_append (walk n a n k) ((goal, label) ∷ [])))))
    where
      past : 48 * m + 48 ≡ 48 * (m + 1)
      past = omega arith
