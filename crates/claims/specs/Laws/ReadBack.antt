-- A list in bytes is read back as the list, where its words fit their fields; and so are the nodes of a node room.
use Rattle.std.specs.Prelude.{ℕ, zero, suc, ◌+◌, ◌*◌, ◌/◌, ◌%◌, ◌^◌, ◌≡◌, refl, List, [], ◌∷◌, ◌++◌, map, length, take}
use Rattle.std.proofs.Common.{arith, zero-add, mod-lt, mod-eq_of_lt, sym, ap, ◌∙◌, append_assoc, length-append, take_at}
use Rattle.std.proofs.Math.Option.{some}
use Rattle.exploration.specs.Lists.{nth}
use Rattle.exploration.specs.Policy.{Node}
use Rattle.exploration.proofs.Laws.Lists.{none_some}
use Rattle.fields.specs.Little.{field, bytes_of}
use Rattle.fields.proofs.Laws.{length_bytes, bytes_low, positive}
use Rattle.fields.proofs.Pieces.{field_second, field_front}
use Rattle.fields.specs.Records.{fields_at, record_bytes, records_bytes, Fill, firsts}
use Rattle.fields.proofs.RecordLaws.{length_record_bytes}
use Rattle.rooms.specs.declared.Feet.{Feet}
use Rattle.rooms.specs.declared.Label.{Label}
use Rattle.rooms.specs.declared.NodeRecord.{NodeRecord}
use Rattle.rooms.specs.Records.{waypoint_layout, waypoint_words, waypoint_from, waypoint_at, node_layout, node_words, node_from, node_at}
use Rattle.rooms.specs.Rooms.{Note, record_of, node_bytes}
use Rattle.rooms.specs.Lists.{waypoint_bytes, list_bytes}
use Rattle.listed.specs.Listed.{entry, entries_from, waypoints}
use Rattle.claims.specs.Laws.Fits.{Each, end, more}
use Rattle.claims.specs.Laws.Below.{Point64, Words64, fills}
use Rattle.claims.specs.Laws.Nodes.{AllOf}

-- ---- a record in bytes between others

-- what a layout's fields hold of these values
abbrev pub lows : List ℕ → List ℕ → List ℕ
lows [] vs = []
lows (n ∷ ns) [] = []
lows (n ∷ ns) (v ∷ vs) = (v % 256 ^ n) ∷ lows ns vs

-- all of each, where none is too large
lows_fill : (ws vs : List ℕ) → Fill ws vs → lows ws vs ≡ vs
lows_fill [] [] f = refl
lows_fill [] (v ∷ vs) f = absurd f
lows_fill (n ∷ ns) [] f = absurd f
lows_fill (n ∷ ns) (v ∷ vs) f = let first = mod-eq_of_lt f.0 in let others = lows_fill ns vs f.1 in rw (first, others)

low_front : (n v : ℕ) (s : List ℕ) → field n (bytes_of n v ++ s) 0 ≡ v % 256 ^ n
low_front n v s = ap (λ (l : List ℕ). field n (l ++ s) 0) (sym (bytes_low n v)) ∙ field_front n (v % 256 ^ n) s (mod-lt v (positive n))

record_between : (ws vs p rest : List ℕ) (at by : ℕ) → length vs ≡ length ws → length p ≡ at + by → fields_at ws (p ++ (record_bytes ws vs ++ rest)) at by ≡ lows ws vs
record_between [] vs p rest at by l e = refl
record_between (n ∷ ns) [] p rest at by l e = absurd (omega arith)
record_between (n ∷ ns) (v ∷ vs) p rest at by l e =
    let s : List ℕ = p ++ ((bytes_of n v ++ record_bytes ns vs) ++ rest) in
    let inner : (bytes_of n v ++ record_bytes ns vs) ++ rest ≡ bytes_of n v ++ (record_bytes ns vs ++ rest) = append_assoc (bytes_of n v) (record_bytes ns vs) rest in
    let here : at + by ≡ length p + 0 = omega arith in
    let first : field n s (at + by) ≡ v % 256 ^ n =
    ap (field n s) here ∙ field_second n p ((bytes_of n v ++ record_bytes ns vs) ++ rest) 0 ∙ ap (λ (l : List ℕ). field n l 0) inner
    ∙ low_front n v (record_bytes ns vs ++ rest) in
    let split : s ≡ (p ++ bytes_of n v) ++ (record_bytes ns vs ++ rest) =
    ap (λ (l : List ℕ). p ++ l) inner ∙ sym (append_assoc p (bytes_of n v) (record_bytes ns vs ++ rest)) in
    let others : fields_at ns s at (by + n) ≡ lows ns vs =
    ap (λ (l : List ℕ). fields_at ns l at (by + n)) split
    ∙ record_between ns vs (p ++ bytes_of n v) rest at (by + n) (omega arith) (omega (arith, length-append p (bytes_of n v), length_bytes n v)) in
    cc

-- ---- a list of waypoints

long : (w : Feet × Label) → length (waypoint_bytes w) ≡ 48
long w = length_record_bytes waypoint_layout (waypoint_words w.0 w.1) refl

pub length_list : (t : List (Feet × Label)) → length (list_bytes t) ≡ 48 * length t
length_list [] = refl
length_list (w ∷ t) = omega (arith, length-append (waypoint_bytes w) (list_bytes t), long w, length_list t)

-- the waypoint at a place
waypoint_between : (w : Feet × Label) (p rest : List ℕ) (k : ℕ) → Words64 w → length p ≡ 48 * k → entry (waypoint_at (p ++ (waypoint_bytes w ++ rest)) k) ≡ w
unfolding waypoint_at
waypoint_between w p rest k h e =
    ap (λ (vs : List ℕ). entry (waypoint_from vs))
    (record_between waypoint_layout (waypoint_words w.0 w.1) p rest (48 * k) 0 refl (omega arith) ∙ lows_fill waypoint_layout (waypoint_words w.0 w.1) (fills w h))

entries_between : {t : List (Feet × Label)} → Each Words64 t → (p : List ℕ) (k : ℕ) → length p ≡ 48 * k → entries_from (p ++ list_bytes t) k (length t) ≡ t
unfolding entries_from
entries_between end p k e = refl
entries_between (more {x = w} {xs = t} h hs) p k e =
    let first = waypoint_between w p (list_bytes t) k h e in
    let split : p ++ (waypoint_bytes w ++ list_bytes t) ≡ (p ++ waypoint_bytes w) ++ list_bytes t = sym (append_assoc p (waypoint_bytes w) (list_bytes t)) in
    let others : entries_from (p ++ (waypoint_bytes w ++ list_bytes t)) (suc k) (length t) ≡ t =
    ap (λ (l : List ℕ). entries_from l (suc k) (length t)) split
    ∙ entries_between hs (p ++ waypoint_bytes w) (suc k) (omega (arith, length-append p (waypoint_bytes w), long w)) in
    cc

pub list_back : {t : List (Feet × Label)} → Each Words64 t → waypoints (list_bytes t) ≡ t
unfolding waypoints
list_back {t} h =
    let n : length (list_bytes t) / 48 ≡ length t = omega (arith, length_list t) in
    ap (entries_from (list_bytes t) 0) n ∙ entries_between h [] 0 refl

pub list_whole : (t : List (Feet × Label)) → length (list_bytes t) % 48 ≡ 0
list_whole t = omega (arith, length_list t)

-- the list at the front of a room
pub list_front : (t : List (Feet × Label)) (rest : List ℕ) → take (48 * length t) (list_bytes t ++ rest) ≡ list_bytes t
list_front t rest = take_at (list_bytes t) rest (48 * length t) (length_list t)

-- ---- the nodes of a node room

-- what a node's record holds of it
abbrev pub held : Node Feet Label Note → NodeRecord
held n = node_from (lows node_layout (node_words (record_of n)))

pub node_long : (n : Node Feet Label Note) → length (node_bytes n) ≡ 64
node_long n = length_record_bytes node_layout (node_words (record_of n)) refl

node_between : (n : Node Feet Label Note) (p rest : List ℕ) (k : ℕ) → length p ≡ 64 * k → node_at (p ++ (node_bytes n ++ rest)) k ≡ held n
unfolding node_at
node_between n p rest k e = ap node_from (record_between node_layout (node_words (record_of n)) p rest (64 * k) 0 refl (omega arith))

-- node j of those that stand behind k others
nodes_between : (ns : List (Node Feet Label Note)) (p rest : List ℕ) (k j : ℕ) (n : Node Feet Label Note) → length p ≡ 64 * k → nth ns j ≡ some n →
    node_at (p ++ (records_bytes node_bytes ns ++ rest)) (k + j) ≡ held n
nodes_between [] p rest k j n e i = absurd (none_some i)
nodes_between (m ∷ ns) p rest k zero n e i =
    let z : m ≡ n = cc in
    let there : k + 0 ≡ k = omega arith in
    rw (append_assoc (node_bytes m) (records_bytes node_bytes ns) rest, there, ← z) (node_between m p (records_bytes node_bytes ns ++ rest) k e)
nodes_between (m ∷ ns) p rest k (suc j) n e i =
    let there : k + suc j ≡ suc k + j = omega arith in
    let split : p ++ ((node_bytes m ++ records_bytes node_bytes ns) ++ rest) ≡ (p ++ node_bytes m) ++ (records_bytes node_bytes ns ++ rest) =
    ap (λ (l : List ℕ). p ++ l) (append_assoc (node_bytes m) (records_bytes node_bytes ns) rest) ∙ sym (append_assoc p (node_bytes m) (records_bytes node_bytes ns ++ rest)) in
    rw (split, there) (nodes_between ns (p ++ node_bytes m) rest (suc k) j n (omega (arith, length-append p (node_bytes m), node_long m)) i)

-- the first values of a function, the first one apart
firsts_front : {A : Type 0} (n : ℕ) (g : ℕ → A) → firsts (suc n) g ≡ g 0 ∷ firsts n (λ k. g (suc k))
firsts_front zero g = refl
firsts_front {A} (suc n) g = ap (λ (l : List A). l ++ (g (suc n) ∷ [])) (firsts_front n g)

firsts_map : {A B : Type 0} (h : A → B) (xs : List A) (g : ℕ → B) → ((k : ℕ) (x : A) → nth xs k ≡ some x → g k ≡ h x) → firsts (length xs) g ≡ map h xs
firsts_map h [] g e = refl
firsts_map h (x ∷ xs) g e =
    let first = e 0 x refl in
    let others = firsts_map h xs (λ k. g (suc k)) (λ k y i. e (suc k) y i) in
    firsts_front (length xs) g ∙ rw (first, others)

-- so what is read of the first records is what each of them holds of its node
pub room_back : {A : Type 0} (f : NodeRecord → A) (h : Node Feet Label Note → A) (ns : List (Node Feet Label Note)) (rest : List ℕ) →
    AllOf (λ n. f (held n) ≡ h n) ns → firsts (length ns) (λ k. f (node_at (records_bytes node_bytes ns ++ rest) k)) ≡ map h ns
room_back f h ns rest e =
    firsts_map h ns (λ k. f (node_at (records_bytes node_bytes ns ++ rest) k)) (λ k n i. ap f (rw (zero-add k) at (nodes_between ns [] rest 0 k n refl i)) ∙ e k n i)

-- a node's point, where its words fit
pub point_held : (n : Node Feet Label Note) → Point64 n.point → (held n).feet ≡ n.point
point_held n h = let x = mod-eq_of_lt h.x in let y = mod-eq_of_lt h.y in let z = mod-eq_of_lt h.z in rw (x, y, z)
