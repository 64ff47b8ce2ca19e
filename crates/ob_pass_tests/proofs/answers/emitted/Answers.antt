use Rattle.std.proofs.Common.{rules}
use Rattle.ob_vault.specs.Places.{at}
use Rattle.ob_pass_tests.proofs.Beside.{on_ok}
use Rattle.ob_pass_tests.proofs.Passes.{emitted_on, may_read, written_rests}
use Rattle.ob_pass_tests.proofs.Sizes.{emit_asks}
use Rattle.ob_pass_tests.proofs.answers.emitted.Goals as goal

pub emit_all-rows-requires : goal.emit_all-rows-requires
emit_all-rows-requires g c =
    let rests = c.make_room.ensures.rests in
    let may = c.requires in
    record {
      spare = may_read _ _ _ rests c.in_ok-make_room.ensures.room _ may.ready (emit_asks _ _ may.some may.slots);
      flat = written_rests _ _ _ rests _ _ may.written;
      size = may.size;
      room = may.idle;
      columns = search rules;
    }

pub returns : goal.returns
returns g c =
    let did = c.emit_all-rows.ensures.emits in
    on_ok c.say_taken.result (emitted_on _ _ _ c.make_room.ensures.rests c.args.room.now.pack c.args.flat.now _ (at g.R.Revisions.state c.emit_all-rows.new.vault (g.S.BlockStore.state c.emit_all-rows.new.store)) c.emit_all-rows.result c.requires.ready did.ran did.source)
