use Rattle.ob_tables.proofs.Words.{draw_at, tabulate, ◌+◌, ◌≡◌, ◌≤◌}
use Rattle.std.proofs.Common.{vec_capacity, vec_len}
use Rattle.ob_tables.proofs.DrawsTaken.{HasTaken}
use Rattle.ob_tables.proofs.creating.next_draws.Given as goal

abbrev pub invariant-each : goal.invariant-each
invariant-each l = record {
  list : l.list.items ≡ tabulate l.i (λ i. draw_at l.fn.draws.key (l.fn.draws.next + i));
  taken : HasTaken l.fn.draws l.draws l.i;
  count : vec_len l.list ≡ l.i;
  space : l.keys ≤ vec_capacity l.list;
}
