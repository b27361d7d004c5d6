-- Sets of core numbers.
use Rattle.std.specs.Prelude.{ℕ, ◌^◌, Bool, if◌then◌else◌, ◌==◌, bit_or, bit_xor}
use Rattle.std.specs.Int.Count.{count_trailing_zeros}
use Rattle.automata.specs.declared.nodes.CoreSet.{CoreSet}
use Rattle.semantics.specs.Meaning.{bit}

-- the set whose members are the bits that are on in m
abbrev pub set_of : ℕ → CoreSet
set_of m = record { bits = m }

-- the set without members
abbrev pub empty : CoreSet
empty = set_of 0

-- number k is a member
abbrev pub has : CoreSet → ℕ → Bool
has m k = bit m.bits k == 1

-- number k joins
abbrev pub insert : CoreSet → ℕ → CoreSet
insert m k = set_of (bit_or m.bits (2 ^ k))

-- a member leaves
abbrev pub remove : CoreSet → ℕ → CoreSet
remove m k = set_of (bit_xor m.bits (2 ^ k))

-- the lowest member, 64 where there is none
abbrev pub lowest : CoreSet → ℕ
lowest m = count_trailing_zeros 64 m.bits

-- a joins new unless it is in old
abbrev pub join : ℕ → CoreSet → CoreSet → CoreSet
join a old new = if has old a then new else insert new a
