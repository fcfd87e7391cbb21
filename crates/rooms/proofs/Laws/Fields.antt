-- A record that the code reads field by field is the record of the definition, and one past the room's end reads as one at its end: all zero.
use Rattle.std.specs.Prelude.{◌≡◌, refl, Bool, true, false, cond, List, [], ◌∷◌, ℕ, zero, suc, ◌+◌, ◌*◌, ◌/◌, ◌≤◌, ◌<◌, length}
use Rattle.std.proofs.Common.{sym, ap, ◌∙◌, ⊎_elim, arith, add-zero, le-div_iff_mul-le, div-lt_iff_lt-mul, mul_comm}
use Rattle.std.proofs.lemmas.Bool.{cases_lt}
use Rattle.fields.specs.Little.{fits_at, field}
use Rattle.fields.specs.Records.{fields_at, record_at}
use Rattle.fields.proofs.Laws.{field_out}
use Rattle.rooms.specs.declared.Feet.{Feet}
use Rattle.rooms.specs.declared.WaypointRecord.{WaypointRecord}
use Rattle.rooms.specs.declared.NodeRecord.{NodeRecord}
use Rattle.rooms.specs.declared.Entry.{Entry}
use Rattle.rooms.specs.Offsets.{Offset}
use Rattle.rooms.specs.Records.{waypoint_layout, feet_from, waypoint_from, node_layout, node_from, entry_layout, entry_from}

-- ---- past the end

field_end : (n : ℕ) (a : List ℕ) (at : ℕ) → length a ≤ at → field n a at ≡ 0
unfolding field
field_end zero a at h = go (fits_at zero a at)
  where
    go : (b : Bool) → ◌≡◌ {A = ℕ} (cond b 0 0) 0
    go true = refl
    go false = refl
field_end (suc n) a at h = field_out (suc n) a at (omega arith)

fields_end : (ws a : List ℕ) (at to by : ℕ) → length a ≤ at → length a ≤ to → fields_at ws a at by ≡ fields_at ws a to by
fields_end [] a at to by h i = refl
fields_end (n ∷ ns) a at to by h i =
    let e = field_end n a (at + by) (omega arith) in
    let f = field_end n a (to + by) (omega arith) in
    let more = fields_end ns a at to (by + n) h i in
    cc

-- a record that starts past the end or not
pub offset_least : (a : List ℕ) (at : ℕ) {r : ℕ} → r ≤ length a → (at ≤ length a → r ≡ at) → (length a ≤ at → r ≡ length a) → Offset a at r
offset_least a at {r} l inside end =
    record {
      within = l;
      reads = λ ws. ⊎_elim (λ h. fields_end ws a r at 0 (omega (arith, end (omega arith))) (omega arith)) (λ h. ap (record_at ws a) (inside h)) (cases_lt (length a) at);
    }

-- record k, at so many bytes a record, starts past the end or not
module _ (a : List ℕ) (size k : ℕ) (some : 0 < size) where
  pub offset_end : length a / size < k → Offset a (size * k) (length a)
  offset_end h =
      let l : length a < size * k = rw mul_comm ((div-lt_iff_lt-mul some).0 h) in
      record { within = omega arith; reads = λ ws. fields_end ws a (length a) (size * k) 0 (omega arith) (omega arith) }

  pub offset_in : k ≤ length a / size → Offset a (size * k) (size * k)
  offset_in h = record { within = rw mul_comm ((le-div_iff_mul-le some).0 h); reads = λ ws. refl }

-- ---- field by field

-- the first field stands at offset 0 of its record
first : (a : List ℕ) (at : ℕ) {x : ℕ} → x ≡ field 8 a at → x ≡ field 8 a (at + 0)
first a at e = e ∙ ap (field 8 a) (sym (add-zero at))

module _ (a : List ℕ) (at : ℕ) where
  pub feet_read : {x y z : ℕ} → x ≡ field 8 a at → y ≡ field 8 a (at + 8) → z ≡ field 8 a (at + 16) →
      ◌≡◌ {A = Feet} (record { x = x; y = y; z = z }) (feet_from (record_at waypoint_layout a at))
  feet_read ex ey ez = λ i. record { x = first a at ex i; y = ey i; z = ez i }

  pub waypoint_read : {p : Feet} {l m o : ℕ} → p ≡ feet_from (record_at waypoint_layout a at) → l ≡ field 8 a (at + 24) → m ≡ field 8 a (at + 32) → o ≡ field 8 a (at + 40) →
      ◌≡◌ {A = WaypointRecord} (record { feet = p; label = record { lift = l; movement = m; door = o } }) (waypoint_from (record_at waypoint_layout a at))
  waypoint_read ep el em eo = λ i. record { feet = ep i; label = record { lift = el i; movement = em i; door = eo i } }

  pub node_read : {w : WaypointRecord} {c q d : ℕ} → w ≡ waypoint_from (record_at waypoint_layout a at) →
      c ≡ field 8 a (at + 48) → q ≡ field 4 a (at + 56) → d ≡ field 4 a (at + 60) →
      ◌≡◌ {A = NodeRecord} (record { feet = w.feet; label = w.label; cost = c; parent = q; closed = d }) (node_from (record_at node_layout a at))
  node_read ew ec eq ed = λ i. record { feet = (ew i).feet; label = (ew i).label; cost = ec i; parent = eq i; closed = ed i }

  pub entry_read : {t o w : ℕ} → t ≡ field 8 a at → o ≡ field 8 a (at + 8) → w ≡ field 8 a (at + 16) →
      ◌≡◌ {A = Entry} (record { estimate = t; order = o; waiting = w }) (entry_from (record_at entry_layout a at))
  entry_read et eo ew = λ i. record { estimate = first a at et i; order = eo i; waiting = ew i }
