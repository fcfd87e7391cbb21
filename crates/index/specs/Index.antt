-- The index of points (02, No. 7), and what the code works out on any room. No promise of the search rests on these: `Laws` says that of an index of nodes a
-- lookup is the scan's answer. Definitions only.
use Rattle.std.specs.Prelude.{ℕ, zero, suc, ◌+◌, ◌-◌, ◌*◌, ◌/◌, ◌%◌, ◌^◌, cond, ◌||◌, List, length, ◌==◌, bit_and, nat_lt}
use Rattle.fields.specs.Little.{field, with_field}
use Rattle.rooms.specs.declared.Feet.{Feet}
use Rattle.rooms.specs.Waypoints.{canonical_word}
use Rattle.rooms.specs.Records.{node_at}
use Rattle.rooms.specs.Scans.{first_of, is_at}

-- ---- "a hash of the three 64-bit words of a point, built from shifts and sums that wrap"

-- a sum that wraps
abbrev pub wrapping_add : ℕ → ℕ → ℕ
wrapping_add a b = (a + b) % 2 ^ 64

-- a word, shifted to the right by n digits, added to itself: its high digits reach its low ones
abbrev pub folded_down : ℕ → ℕ → ℕ
folded_down n h = wrapping_add h (h / 2 ^ n)

-- and to the left: its low digits reach its high ones
abbrev pub folded_up : ℕ → ℕ → ℕ
folded_up n h = wrapping_add h (h * 2 ^ n % 2 ^ 64)

-- a hash stirred: each of its digits reaches others on both sides
unfoldable pub stir : ℕ → ℕ
stir h = folded_up 5 (folded_down 19 h)

-- one more word, mixed into a hash
unfoldable pub mix : ℕ → ℕ → ℕ
mix h w = stir (wrapping_add h w)

-- three words, then stirred twice more; a slot is taken from the low digits, so the high ones are folded down at the end
unfoldable pub hashed : ℕ → ℕ → ℕ → ℕ
hashed x y z = folded_down 34 (stir (stir (mix (mix (mix 0 x) y) z)))

-- of a point's words, with -0.0 as 0, so that same points have one hash
abbrev pub hash_of : Feet → ℕ
hash_of p = hashed (canonical_word p.x) (canonical_word p.y) (canonical_word p.z)

-- a point's own slot, of n: those low digits of its hash that n - 1 has. Of a power of two of slots that is the remainder (`home_remainder`).
unfoldable pub home : ℕ → Feet → ℕ
home n p = bit_and (hash_of p) (n - 1)

-- ---- "u32 slots"

abbrev pub slots : List ℕ → ℕ
slots x = length x / 4

-- 0 where slot s is free, else a node's number plus 1
unfoldable pub slot_at : List ℕ → ℕ → ℕ
slot_at x s = field 4 x (4 * s)

-- the slot behind slot s, of n: behind the last the first
unfoldable pub next_slot : ℕ → ℕ → ℕ
next_slot n s = cond (nat_lt (s + 1) n) (s + 1) 0

-- ---- a lookup of the first m nodes: from slot s over at most f slots

-- at a slot with e: a free slot, or a number that is none of theirs, ends it; a node at the point is the answer; else r, what the slots behind say
abbrev pub probe_by : List ℕ → ℕ → Feet → ℕ → ℕ → ℕ
probe_by a m q e r = cond (e == 0 || nat_lt m e) m (cond (is_at a q (e - 1)) (e - 1) r)

abbrev pub probe_from : List ℕ → List ℕ → ℕ → Feet → ℕ → ℕ → ℕ
probe_from x a m q zero s = m
probe_from x a m q (suc f) s = probe_by a m q (slot_at x s) (probe_from x a m q f (next_slot (slots x) s))

-- from the point's own slot on
unfoldable pub probed : List ℕ → List ℕ → ℕ → Feet → ℕ
probed x a m q = probe_from x a m q (slots x) (home (slots x) q)

-- of n nodes, of which m are entered: the others are scanned
unfoldable pub looked_up : List ℕ → List ℕ → ℕ → ℕ → Feet → ℕ
looked_up x a m n q = cond (nat_lt (probed x a m q) m) (probed x a m q) (first_of (is_at a q) m (n - m))

-- ---- nodes entered

-- the first free slot from slot s on, over at most f slots, or the number of slots
abbrev pub free_from : List ℕ → ℕ → ℕ → ℕ
free_from x zero s = slots x
free_from x (suc f) s = cond (slot_at x s == 0) s (free_from x f (next_slot (slots x) s))

unfoldable pub free_for : List ℕ → Feet → ℕ
free_for x q = free_from x (slots x) (home (slots x) q)

-- node k in slot s
unfoldable pub entered : List ℕ → ℕ → ℕ → List ℕ
entered x s k = with_field 4 x (4 * s) ((k + 1) % 2 ^ 32)

-- f nodes from node k on, as long as a slot is free; and the number of the first that is not entered
abbrev pub extend_by : ℕ → List ℕ → List ℕ → ℕ → List ℕ × ℕ
extend_by zero x a k = (x, k)
extend_by (suc f) x a k = cond (nat_lt (free_for x (node_at a k).feet) (slots x)) (extend_by f (entered x (free_for x (node_at a k).feet) k) a (k + 1)) (x, k)

unfoldable pub extended : List ℕ → List ℕ → ℕ → ℕ → List ℕ × ℕ
extended x a k n = extend_by (n - k) x a k
