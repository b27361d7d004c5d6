use Rattle.std.proofs.Common.{◌≡◌, ◌^◌, ◌<◌, drop}
use Rattle.texts.specs.Numerals.{onward}
use Rattle.texts.proofs.number.Given as goal

abbrev pub invariant-loop-byte : goal.invariant-loop-byte
invariant-loop-byte l = (onward l.base l.value (drop l.byte-index l.text) ≡ onward l.base 0 l.text) × (l.value < l.base ^ l.byte-index)
