-- 01, "Marked examples (M: proved)", as one table under one claim. Each row asks a definition that a public contract cites: root's `answer`, the sorted and
-- thinned tops of heights, support's `covers`, policy's `door_passage` and `permission`. f64s are given by their bits.
use Rattle.std.specs.Prelude.{ℕ, Bool, true, false, ◌&&◌, List, [], ◌∷◌, map, T, eqb}
use Rattle.std.specs.Bool.{beq}
use Rattle.std.specs.Float.{nan, binary64}
use Rattle.std.specs.Float.Ieee.{of_bits, to_bits, le, lt, eq, add, sub, neg}
use Rattle.floats.specs.Floats.{larger}
use Rattle.root.specs.Root.{Given, value, refusal, quanta}
use Rattle.root.specs.Method.{answer, root_of, isqrt}
use Rattle.heights.specs.Heights.{insert, sorted, within, thinned, thinned_after}
use Rattle.support.specs.declared.Interval.{Interval}
use Rattle.support.specs.Cover.{joins, enough, reach_one, round, rounds, covers}
use Rattle.policy.specs.declared.policy.WalkPolicy.{WalkPolicy}
use Rattle.policy.specs.Answers.{shape, through, wall}
use Rattle.policy.specs.Doors.{door_passage, door_case}
use Rattle.policy.specs.Permission.{forbidden, permission}

-- an example: what is asked, and last the answer that it has
pub data Row : Type 0 where
  root : ℕ → ℕ → Row
  no_root : ℕ → ℕ → Row
  tops : List ℕ → List ℕ → Row
  cover : List (ℕ × ℕ) → Bool → Row
  passage : WalkPolicy → ℕ → ℕ → Row
  byte : WalkPolicy → ℕ → ℕ → Row

-- "breaker who may pass", and can do no more: so "without iron" too
abbrev pub breaker : WalkPolicy
breaker = record {
  avoid_water = false;
  avoid_damage_blocks = false;
  can_jump = false;
  jump_height = nan;
  can_pass_doors = true;
  can_open_doors = false;
  can_open_iron_doors = false;
  door_breaker = true;
}

abbrev pub table : List Row
table =
    -- "root of 4 is 2; of 2, bits 3ff6a09e667f3bcd; of 2^-1074, 2^-537"
    root 0x4010_0000_0000_0000 0x4000_0000_0000_0000
    ∷ root 0x4000_0000_0000_0000 0x3ff6_a09e_667f_3bcd
    ∷ root 1 0x1e60_0000_0000_0000
    -- "tops 1.0, 1 + 8e-8, 1 + 1.6e-7 keep the first and third"
    ∷ tops (0x3ff0_0000_0000_0000 ∷ 0x3ff0_0000_1579_8ee2 ∷ 0x3ff0_0000_2af3_1dc4 ∷ []) (0x3ff0_0000_0000_0000 ∷ 0x3ff0_0000_2af3_1dc4 ∷ [])
    -- "intervals (0, 0.5), (0.5, 1) cover; (0, 0.4), (0.6, 1) don't"
    ∷ cover ((0, 0x3fe0_0000_0000_0000) ∷ (0x3fe0_0000_0000_0000, 0x3ff0_0000_0000_0000) ∷ []) true
    ∷ cover ((0, 0x3fd9_9999_9999_999a) ∷ (0x3fe3_3333_3333_3333, 0x3ff0_0000_0000_0000) ∷ []) false
    -- "breaker who may pass: flags 8 Through (byte 3), 24 without iron Wall (byte 6), 56 Shape"
    ∷ passage breaker 8 through
    ∷ byte breaker 8 3
    ∷ passage breaker 24 wall
    ∷ byte breaker 24 6
    ∷ passage breaker 56 shape
    -- Ours, for other sentences of 01. "Both zeros keep their sign. Negative, infinite or NaN input is refused (9)."
    ∷ root 0 0
    ∷ root 0x8000_0000_0000_0000 0x8000_0000_0000_0000
    ∷ no_root 0x8000_0000_0000_0001 9
    ∷ no_root 0x7ff0_0000_0000_0000 9
    ∷ no_root 0xfff0_0000_0000_0000 9
    ∷ no_root 0x7ff8_0000_0000_0000 9
    -- "sorted": the same tops in another order
    ∷ tops (0x3ff0_0000_2af3_1dc4 ∷ 0x3ff0_0000_0000_0000 ∷ 0x3ff0_0000_1579_8ee2 ∷ []) (0x3ff0_0000_0000_0000 ∷ 0x3ff0_0000_2af3_1dc4 ∷ [])
    ∷ []

-- ---- whether a row has the answer of the definition

abbrev root_is : Given → ℕ → Bool
root_is (value r) b = eqb (to_bits binary64 r) b
root_is (refusal n) b = false

abbrev refused_by : Given → ℕ → Bool
refused_by (value r) k = false
refused_by (refusal n) k = eqb n k

abbrev same : List ℕ → List ℕ → Bool
same [] [] = true
same [] (y ∷ ys) = false
same (x ∷ xs) [] = false
same (x ∷ xs) (y ∷ ys) = eqb x y && same xs ys

abbrev kept : List ℕ → List ℕ
kept ts = map (to_bits binary64) (thinned (sorted (map (of_bits binary64) ts)))

abbrev from_to : ℕ × ℕ → Interval
from_to i = record { begin = of_bits binary64 i.0; end = of_bits binary64 i.1 }

abbrev pub holds : Row → Bool
holds (root x r) = root_is (answer (of_bits binary64 x)) r
holds (no_root x n) = refused_by (answer (of_bits binary64 x)) n
holds (tops ts ks) = same (kept ts) ks
holds (cover is c) = beq (covers (map from_to is)) c
holds (passage p f n) = eqb (door_passage p f) n
-- of a body out of water
holds (byte p f n) = eqb (permission p false f) n

abbrev pub all : List Row → Bool
all [] = true
all (r ∷ rs) = holds r && all rs

-- The claim: every row of the table has its definition's answer.
pub marked : T (all table)
unfolding answer root_of isqrt quanta insert sorted within thinned thinned_after covers rounds round reach_one joins enough larger door_case forbidden permission of_bits to_bits le lt eq add sub neg
marked = tt
