-- Laws of records, over the layout: what was written is read back, all else stays, and a room is its records in bytes with what lies past them.
use Rattle.std.specs.Prelude.{ℕ, zero, suc, ◌+◌, ◌*◌, ◌/◌, ◌%◌, ◌<◌, ◌≤◌, ◌≡◌, refl, Bool, true, false, cond, List, [], ◌∷◌, ◌++◌, ◌⊎◌, ◌≢◌, length, take, drop, set}
use Rattle.std.proofs.Common.{arith, add-zero, mul-zero, mul-suc, sym, ap, ◌∙◌, append_assoc, append-nil, inl, inr, ⊎_elim, le-leb, leb-true, length-append, take-append-drop, take-add, drop-drop, take_at, length-take-le}
use Rattle.std.proofs.lemmas.List.{set-append_left, set_at}
use Rattle.fields.specs.Little.{bytes_of, fits_at, field, with_field}
use Rattle.fields.proofs.Laws.{length_with, length_bytes, read_back, read_other, with_parts}
use Rattle.fields.proofs.Pieces.{Bytes, bytes_field, with_is, drop_with}
use Rattle.fields.specs.Records.{record_size, fields_at, with_fields, with_record, record_bytes, records_bytes, Fill, firsts}

-- ---- a record written, field by field

pub record_in : (ws s : List ℕ) (at : ℕ) (vs : List ℕ) → at + record_size ws ≤ length s → with_record ws s at vs ≡ with_fields ws s at 0 vs
unfolding with_record
record_in ws s at vs h = rw (le-leb (at + record_size ws) (length s) h)

-- of two layouts of one size: what is equal where it fits is equal
pub record_same : (ws us s : List ℕ) (at : ℕ) (vs xs : List ℕ) → record_size ws ≡ record_size us →
    (at + record_size us ≤ length s → with_fields ws s at 0 vs ≡ with_fields us s at 0 xs) → with_record ws s at vs ≡ with_record us s at xs
unfolding with_record
record_same ws us s at vs xs e h = rw e (go (fits_at (record_size us) s at) refl)
  where
    go : (b : Bool) → fits_at (record_size us) s at ≡ b → cond b (with_fields ws s at 0 vs) s ≡ cond b (with_fields us s at 0 xs) s
    go true t = h (leb-true (at + record_size us) (length s) t)
    go false t = refl

-- two u32 are written by one u64, the lower half first
pub halves : (ns s : List ℕ) (at by a b : ℕ) (vs : List ℕ) → at + by + 8 ≤ length s → a < 4294967296 →
    with_fields (8 ∷ ns) s at by ((a + 4294967296 * b) ∷ vs) ≡ with_fields (4 ∷ 4 ∷ ns) s at by (a ∷ b ∷ vs)
halves ns s at by a b vs h l =
    let low : (a + 4294967296 * b) % 4294967296 ≡ a = omega arith in
    let high : (a + 4294967296 * b) / 4294967296 ≡ b = omega arith in
    let there : at + by + 4 ≡ at + (by + 4) = omega arith in
    let on : by + 8 ≡ by + 4 + 4 = omega arith in
    let e : with_field 8 s (at + by) (a + 4294967296 * b) ≡ with_field 4 (with_field 4 s (at + by) a) (at + (by + 4)) b =
    with_parts 4 4 s (at + by) (a + 4294967296 * b) h ∙ rw (low, high, there) in
    rw (e, on)

-- ---- what a write leaves

pub length_record : (ws s : List ℕ) (at by : ℕ) (vs : List ℕ) → length (with_fields ws s at by vs) ≡ length s
length_record [] s at by vs = refl
length_record (n ∷ ns) s at by [] = refl
length_record (n ∷ ns) s at by (v ∷ vs) = length_record ns (with_field n s (at + by) v) at (by + n) vs ∙ length_with n s (at + by) v

-- a field apart from the record
pub field_apart : (ws s : List ℕ) (at by : ℕ) (vs : List ℕ) (m to : ℕ) → (to + m ≤ at + by) ⊎ (at + by + record_size ws ≤ to) →
    field m (with_fields ws s at by vs) to ≡ field m s to
field_apart [] s at by vs m to away = refl
field_apart (n ∷ ns) s at by [] m to away = refl
field_apart (n ∷ ns) s at by (v ∷ vs) m to away =
    field_apart ns (with_field n s (at + by) v) at (by + n) vs m to (⊎_elim (λ h. inl (omega arith)) (λ h. inr (omega arith)) away)
    ∙ read_other n m s (at + by) to v (⊎_elim (λ h. inl h) (λ h. inr (omega arith)) away)

-- another record apart from it
pub record_apart : (ws s : List ℕ) (at by : ℕ) (vs us : List ℕ) (to on : ℕ) → (to + on + record_size us ≤ at + by) ⊎ (at + by + record_size ws ≤ to + on) →
    fields_at us (with_fields ws s at by vs) to on ≡ fields_at us s to on
record_apart ws s at by vs [] to on away = refl
record_apart ws s at by vs (m ∷ ms) to on away =
    let first : field m (with_fields ws s at by vs) (to + on) ≡ field m s (to + on) =
    field_apart ws s at by vs m (to + on) (⊎_elim (λ h. inl (omega arith)) (λ h. inr h) away) in
    let rest : fields_at ms (with_fields ws s at by vs) to (on + m) ≡ fields_at ms s to (on + m) =
    record_apart ws s at by vs ms to (on + m) (⊎_elim (λ h. inl (omega arith)) (λ h. inr (omega arith)) away) in
    cc

-- the record itself
pub record_back : (ws s : List ℕ) (at by : ℕ) (vs : List ℕ) → Fill ws vs → at + by + record_size ws ≤ length s →
    fields_at ws (with_fields ws s at by vs) at by ≡ vs
record_back [] s at by [] f h = refl
record_back [] s at by (v ∷ vs) f h = absurd f
record_back (n ∷ ns) s at by [] f h = absurd f
record_back (n ∷ ns) s at by (v ∷ vs) f h =
    let t : List ℕ = with_field n s (at + by) v in
    let first : field n (with_fields ns t at (by + n) vs) (at + by) ≡ v =
    field_apart ns t at (by + n) vs n (at + by) (inl (omega arith)) ∙ read_back n s (at + by) v (omega arith) f.0 in
    let rest : fields_at ns (with_fields ns t at (by + n) vs) at (by + n) ≡ vs =
    record_back ns t at (by + n) vs f.1 (simp length_with (omega arith)) in
    cc

-- the bytes behind a record
pub drop_record : (ws s : List ℕ) (at by : ℕ) (vs : List ℕ) (k : ℕ) → at + by + record_size ws ≤ k → drop k (with_fields ws s at by vs) ≡ drop k s
drop_record [] s at by vs k h = refl
drop_record (n ∷ ns) s at by [] k h = refl
drop_record (n ∷ ns) s at by (v ∷ vs) k h =
    drop_record ns (with_field n s (at + by) v) at (by + n) vs k (omega arith) ∙ drop_with k n s (at + by) v (omega arith)

-- ---- records in bytes

pub length_record_bytes : (ws vs : List ℕ) → length vs ≡ length ws → length (record_bytes ws vs) ≡ record_size ws
length_record_bytes [] vs e = refl
length_record_bytes (n ∷ ns) [] e = absurd (omega arith)
length_record_bytes (n ∷ ns) (v ∷ vs) e =
    length-append (bytes_of n v) (record_bytes ns vs) ∙ omega (arith, length_bytes n v, length_record_bytes ns vs (omega arith))

-- the table with a record set: the bytes before it, its own, the bytes behind it
pub with_record_is : (ws s : List ℕ) (at by : ℕ) (vs : List ℕ) → length vs ≡ length ws → at + by + record_size ws ≤ length s →
    with_fields ws s at by vs ≡ take (at + by) s ++ (record_bytes ws vs ++ drop (at + by + record_size ws) s)
with_record_is [] s at by vs e h = rw (add-zero (at + by)) (sym (take-append-drop (at + by) s))
with_record_is (n ∷ ns) s at by [] e h = absurd (omega arith)
with_record_is (n ∷ ns) s at by (v ∷ vs) e h =
    with_record_is ns t at (by + n) vs (omega arith) (simp length_with (omega arith))
    ∙ ap (λ (l : List ℕ). l ++ (record_bytes ns vs ++ drop (at + (by + n) + record_size ns) t)) front
    ∙ append_assoc (take (at + by) s) (bytes_of n v) (record_bytes ns vs ++ drop (at + (by + n) + record_size ns) t)
    ∙ ap (λ (l : List ℕ). take (at + by) s ++ (bytes_of n v ++ (record_bytes ns vs ++ l))) back
    ∙ ap (λ (l : List ℕ). take (at + by) s ++ l) (sym (append_assoc (bytes_of n v) (record_bytes ns vs) (drop (at + by + (n + record_size ns)) s)))
  where
    t : List ℕ
    t = with_field n s (at + by) v

    front : take (at + (by + n)) t ≡ take (at + by) s ++ bytes_of n v
    front =
        ap (take (at + (by + n))) (with_is n s (at + by) v (omega arith) ∙ sym (append_assoc (take (at + by) s) (bytes_of n v) (drop (at + by + n) s)))
        ∙ take_at (take (at + by) s ++ bytes_of n v) (drop (at + by + n) s) (at + (by + n))
        (length-append (take (at + by) s) (bytes_of n v) ∙ omega (arith, length_bytes n v, length-take-le (at + by) s (omega arith)))

    back : drop (at + (by + n) + record_size ns) t ≡ drop (at + by + (n + record_size ns)) s
    back =
        let e : at + (by + n) + record_size ns ≡ at + by + (n + record_size ns) = omega arith in
        rw e (drop_with (at + by + (n + record_size ns)) n s (at + by) v (omega arith))

-- reading undoes writing: a record that was read has the table's bytes, and fills its layout
pub record_bytes_lem : (ws s : List ℕ) (at by : ℕ) → Bytes s → at + by + record_size ws ≤ length s →
    record_bytes ws (fields_at ws s at by) ≡ take (record_size ws) (drop (at + by) s)
record_bytes_lem [] s at by b h = refl
record_bytes_lem (n ∷ ns) s at by b h =
    let there : at + (by + n) ≡ at + by + n = omega arith in
    ap (λ (l : List ℕ). l ++ record_bytes ns (fields_at ns s at (by + n))) (bytes_field n s (at + by) b (omega arith))
    ∙ ap (λ (l : List ℕ). take n (drop (at + by) s) ++ l)
    (record_bytes_lem ns s at (by + n) b (omega arith) ∙ ap (λ (k : ℕ). take (record_size ns) (drop k s)) there ∙ ap (take (record_size ns)) (sym (drop-drop n (at + by) s)))
    ∙ sym (take-add n (record_size ns) (drop (at + by) s))

-- ---- a room of records

module _ {A : Type 0} (bytes : A → List ℕ) where
  records_more : (xs : List A) (x : A) → records_bytes bytes (xs ++ (x ∷ [])) ≡ records_bytes bytes xs ++ bytes x
  records_more [] x = append-nil (bytes x)
  records_more (y ∷ xs) x = ap (λ (l : List ℕ). bytes y ++ l) (records_more xs x) ∙ sym (append_assoc (bytes y) (records_bytes bytes xs) (bytes x))

  module _ (size : ℕ) (g : ℕ → A) (room : List ℕ) where
    -- records of one size that a room holds from its start on are the room's first bytes
    pub records_are : (n : ℕ) → ((k : ℕ) → k < n → bytes (g k) ≡ take size (drop (size * k) room)) → records_bytes bytes (firsts n g) ≡ take (size * n) room
    records_are zero h = rw mul-zero
    records_are (suc n) h =
        records_more (firsts n g) (g n) ∙ ap (λ (l : List ℕ). l ++ bytes (g n)) (records_are n (λ k l. h k (omega arith)))
        ∙ ap (λ (l : List ℕ). take (size * n) room ++ l) (h n (omega arith))
        ∙ sym (ap (λ (k : ℕ). take k room) (mul-suc size n) ∙ take-add (size * n) size room)

    -- so a room whose bytes past n records are as they were is those records and its old bytes
    pub room_is : (old : List ℕ) (n : ℕ) → ((k : ℕ) → k < n → bytes (g k) ≡ take size (drop (size * k) room)) → drop (size * n) room ≡ drop (size * n) old →
        room ≡ records_bytes bytes (firsts n g) ++ drop (size * n) old
    room_is old n h d =
        sym (take-append-drop (size * n) room) ∙ ap (λ (l : List ℕ). take (size * n) room ++ l) d
        ∙ ap (λ (l : List ℕ). l ++ drop (size * n) old) (sym (records_are n h))

-- ---- the list of a table's records: one more, one set

pub last_or : (k n : ℕ) → k < suc n → (k < n) ⊎ (k ≡ n)
last_or zero zero h = inr refl
last_or zero (suc n) h = inl (omega arith)
last_or (suc k) zero h = absurd (omega arith)
last_or (suc k) (suc n) h = ⊎_elim (λ l. inl (omega arith)) (λ e. inr (ap suc e)) (last_or k n (omega arith))

module _ {A : Type 0} where
  pub length_firsts : (n : ℕ) (g : ℕ → A) → length (firsts n g) ≡ n
  length_firsts zero g = refl
  length_firsts (suc n) g = length-append (firsts n g) (g n ∷ []) ∙ omega (arith, length_firsts n g)

  pub firsts_same : (n : ℕ) (g h : ℕ → A) → ((k : ℕ) → k < n → g k ≡ h k) → firsts n g ≡ firsts n h
  firsts_same zero g h e = refl
  firsts_same (suc n) g h e = let p = firsts_same n g h (λ k l. e k (omega arith)) in let q = e n (omega arith) in rw (p, q)

  pub firsts_more : (n : ℕ) (g h : ℕ → A) (x : A) → h n ≡ x → ((j : ℕ) → j ≢ n → h j ≡ g j) → firsts (suc n) h ≡ firsts n g ++ (x ∷ [])
  firsts_more n g h x e o = let p = firsts_same n h g (λ j m. o j (λ y. omega arith)) in rw (p, e)

  pub firsts_set : (n : ℕ) (g h : ℕ → A) (k : ℕ) (x : A) → k < n → h k ≡ x → ((j : ℕ) → j ≢ k → h j ≡ g j) → firsts n h ≡ set (firsts n g) k x
  firsts_set zero g h k x l e o = absurd (omega arith)
  firsts_set (suc n) g h k x l e o = ⊎_elim (λ m. before m (firsts_set n g h k x m e o)) here (last_or k n l)
    where
      before : k < n → firsts n h ≡ set (firsts n g) k x → firsts (suc n) h ≡ set (firsts (suc n) g) k x
      before m p =
          let q = o n (λ i. omega arith) in
          rw (p, q) (sym (set-append_left (firsts n g) (g n ∷ []) k x (rw length_firsts m)))

      here : k ≡ n → firsts (suc n) h ≡ set (firsts (suc n) g) k x
      here i =
          let p = firsts_same n h g (λ j m. o j (λ y. omega arith)) in
          let q : h n ≡ x = rw (← i) e in
          rw (p, q) (sym (set_at (firsts n g) (g n) [] x k (length_firsts n g ∙ sym i)))
