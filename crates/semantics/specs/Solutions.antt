-- The solutions of "v at i is: hold at i, or pass at i and v at the next position".
use Rattle.std.specs.Prelude.{◌≡◌, ℕ, Bool, true, false}
use Rattle.semantics.specs.Meaning.{UntilAt, WeakUntilAt}

-- where a test is true
abbrev pub On : (ℕ → Bool) → ℕ → Type 0
On test k = test k ≡ true

-- the least solution (pass until hold), or the greatest (pass weak until hold)
abbrev pub Solution : (ℕ → Bool) → (ℕ → Bool) → Bool → ℕ → Type 0
Solution hold pass false i = UntilAt (On pass) (On hold) i
Solution hold pass true i = WeakUntilAt (On pass) (On hold) i
