-- `replay_check::trial::searched` is safe and ends: each room has the bytes that are lent of it. Assumes nothing.
use Rattle.std.proofs.Common.{ℕ, ◌%◌, ◌≤◌, sym, arith, length-take-le}
use Rattle.replay_check.proofs.trial.searched.Goals as goal

-- a number of the sheet, as a part of a room
fits : (n : ℕ) → n % 32897 ≤ 32896
fits n = omega arith

pub slice_bounds-find_walk_path-end : goal.slice_bounds-find_walk_path-end
slice_bounds-find_walk_path-end c = sym (length-take-le _ _ (fits _))

pub slice_bounds-find_walk_path-end-2 : goal.slice_bounds-find_walk_path-end-2
slice_bounds-find_walk_path-end-2 c = sym (length-take-le _ _ (fits _))

pub slice_bounds-find_walk_path-end-4 : goal.slice_bounds-find_walk_path-end-4
slice_bounds-find_walk_path-end-4 c = sym (length-take-le _ _ (fits _))
