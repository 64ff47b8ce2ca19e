use Rattle.std.proofs.Common.{◌+◌, length, refl, arith}
use Rattle.ob_vault.specs.Places.{at}
use Rattle.ob_vault.proofs.Runs.{own_made}
use Rattle.ob_vault.proofs.WordLemmas.{asks_after}
use Rattle.ob_reopen.specs.Closings.{region_of}
use Rattle.ob_reopen.proofs.CloseLemmas.{next_few, unmade, writes_all, unwritten}
use Rattle.ob_reopen.proofs.writing.close_rows.Goals as goal

pub returns-in-Err-clause-writes : goal.returns-in-Err-clause-writes
returns-in-Err-clause-writes g c = unmade c.args.pack c.args.listed.now _ _ c.in-Err.e c.close_error.result c.close_error.ensures c.in-Err.ensures.makes

pub put_rows-requires-clause-region : goal.put_rows-requires-clause-region
put_rows-requires-clause-region g c =
    let old = at g.R.Revisions.state c.args.vault.now (g.S.BlockStore.state c.args.store.now) in
    omega (arith, c.in-Ok.ensures.makes.number, next_few old c.requires.asks.ready (omega (arith, c.requires.asks.few)))

pub put_rows-requires-clause-asks : goal.put_rows-requires-clause-asks
put_rows-requires-clause-asks g c = asks_after {m = length c.args.listed.now + 1} c.requires.asks c.in-Ok.ensures.makes.ok (omega arith)

pub put_rows-requires-clause-own : goal.put_rows-requires-clause-own
put_rows-requires-clause-own g c = own_made _ _ _ c.in-Ok.ensures.makes.ok.lasts c.in-Ok.region c.requires.asks.ready c.in-Ok.ensures.makes.number

pub number-requires : goal.number-requires
number-requires g c = (region_of (length c.args.listed.now + 1), c.in-Ok-put_rows.ensures.fills.lives.live, omega arith)

pub returns-in-Ok-put_rows-clause-writes : goal.returns-in-Ok-put_rows-clause-writes
returns-in-Ok-put_rows-clause-writes g c =
    writes_all c.args.pack c.args.listed.now _ _ c.in-Ok.region c.requires.asks.ready c.in-Ok.ensures.makes c.in-Ok-put_rows.field-0 _ c.number.result c.number.ensures c.in-Ok-put_rows.ensures.fills
    (λ tells live. g.met.S.BlockStore.keeps_live c.put_rows.new.store c.args.vault.now.next _ tells live)

pub returns-in-Err-put_rows-clause-writes : goal.returns-in-Err-put_rows-clause-writes
returns-in-Err-put_rows-clause-writes g c =
    unwritten c.args.pack c.args.listed.now _ _ c.in-Ok.region c.requires.asks.ready c.in-Ok.ensures.makes c.in-Err-put_rows.e c.close_error-in-Err-put_rows.result c.close_error-in-Err-put_rows.ensures _ _
    c.in-Err-put_rows.ensures.fills (c.forget.ensures.forgets (g.S.BlockStore.state c.put_rows.new.store)) refl
