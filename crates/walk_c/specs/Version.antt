-- The version of the interface, 0.6.0, as one number.
use Rattle.std.specs.Prelude.{ℕ, ◌+◌, ◌*◌}

abbrev major : ℕ
major = 0

abbrev minor : ℕ
minor = 6

abbrev patch : ℕ
patch = 0

abbrev pub version : ℕ
version = major * 1000000 + minor * 1000 + patch
