use Rattle.std.proofs.Common.{◌≡◌, ◌++◌, take}
use Rattle.ob_group.proofs.head.push_bytes.Given as goal

abbrev pub invariant-loop-b : goal.invariant-loop-b
invariant-loop-b l = l.text.items ≡ l.initial.text.items ++ take l.b-index l.bytes
