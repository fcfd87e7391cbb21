-- A chain of tests, each of them asked only where those before it held: what its answer says, by what the part before the last test says.
use Rattle.std.specs.Prelude.{◌≡◌, Bool, true, false, ◌&&◌}
use Rattle.std.proofs.Common.{sym, ◌∙◌}

module _ {p f g : Bool} (e : f ≡ p) where
  pub asked : {s : Bool} → f ≡ true → g ≡ s → g ≡ (p && s)
  asked t h = rw (sym e ∙ t) h

  pub spared : (s : Bool) → f ≡ false → g ≡ f → g ≡ (p && s)
  spared s l h = rw (sym e ∙ l) (h ∙ l)
