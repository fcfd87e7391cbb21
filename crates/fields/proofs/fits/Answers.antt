-- `fields::fits` meets its contract. Assumes nothing.
use Rattle.std.proofs.Common.{arith, sym, ◌∙◌, ◌+◌, ◌-◌}
use Rattle.std.proofs.lemmas.Bool.{lt-leb}
use Rattle.fields.proofs.Laws.{leb_same}
use Rattle.fields.proofs.fits.Goals as goal

pub returns-then-bytes-n : goal.returns-then-bytes-n
returns-then-bytes-n c =
    let a = c.args in
    leb_same a.at (a.n - a.bytes) (a.at + a.bytes) a.n (λ h. omega arith) (λ h. omega arith)

pub returns-else-bytes-n : goal.returns-else-bytes-n
returns-else-bytes-n c = let a = c.args in lt-leb a.bytes a.n (omega arith) ∙ sym (lt-leb (a.at + a.bytes) a.n (omega arith))
