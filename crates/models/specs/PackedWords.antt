-- A recording with a word per scan.
use Rattle.std.specs.Prelude.{ℕ, List, length}
use Rattle.semantics.specs.Lassos.{Lasso}
use Rattle.models.specs.Scans.{Checked, scans_check, or_quiet}

-- as many scans as words, and the loop start
abbrev pub packed_check : List ℕ → ℕ → Checked
packed_check ws start = scans_check (length ws) start

-- the meaning of words that passed
abbrev pub of_packed : List ℕ → ℕ → Lasso
of_packed ws start = record { words = ws; start = start }

-- the meaning of what is made from any words
abbrev pub packed_of : List ℕ → ℕ → Lasso
packed_of ws start = or_quiet (packed_check ws start) (of_packed ws start)
