use Rattle.std.proofs.Common.{◌∙◌, arith}
use Rattle.ob_base.specs.Schemas.{width}
use Rattle.ob_vault.specs.Calls.{one}
use Rattle.ob_vault.proofs.Runs.{lives_apart, own_made}
use Rattle.ob_vault.proofs.WordLemmas.{anew_lasts, anew_rests}
use Rattle.ob_flat.proofs.Resting.{flat_rests}
use Rattle.ob_flat.proofs.Rooms.{shelf_wide, room_after, rows_count}
use Rattle.ob_flat.proofs.Tables.{flat_lasts}
use Rattle.ob_pass_bench.proofs.Running.{runs_after, run_over}
use Rattle.ob_pass_bench.proofs.filling.filled.Goals as goal

pub fill_table-result-requires-clause-own : goal.fill_table-result-requires-clause-own
fill_table-result-requires-clause-own g c =
    let anew = anew_rests _ _ _ c.make_room.ensures.rests c.requires.ready in
    own_made _ _ _ c.in_ok-region.ensures.makes.ran.ok.lasts c.in_ok-region.region anew.ready c.in_ok-region.ensures.makes.number

pub clear_shelf-requires-clause-wide : goal.clear_shelf-requires-clause-wide
clear_shelf-requires-clause-wide g c =
    shelf_wide (width c.args.schema.now) c.pack-pack.result c.args.room.now _ c.fill_table-result.new.rows c.requires.place.idle c.pack-pack.ensures.sound c.pack-pack.ensures.value c.open-rows.ensures.value c.fill_table-result.ensures.rows

pub returns-in-Ok-clause-room : goal.returns-in-Ok-clause-room
returns-in-Ok-clause-room g c =
    c.clear_shelf.ensures
    ∙ room_after (width c.args.schema.now) c.pack-pack.result c.args.room.now _ c.fill_table-result.new.rows c.requires.place.idle c.pack-pack.ensures.sound c.pack-pack.ensures.value c.open-rows.ensures.value c.fill_table-result.ensures.rows

pub returns-in-Ok-clause-runs : goal.returns-in-Ok-clause-runs
returns-in-Ok-clause-runs g c =
    let made = c.in-Ok.ensures in
    let anew = anew_lasts made.ok.lasts (anew_lasts c.in_ok-region.ensures.makes.ran.ok.lasts (anew_rests _ _ _ c.make_room.ensures.rests c.requires.ready)) in
    let size = rows_count (width c.args.schema.now) c.pack-pack.result c.args.room.now _ c.requires.place.idle c.open-rows.ensures.value (omega (arith, c.pack-pack.ensures.value, c.requires.place.some)) ∙ c.pack-pack.ensures.value in
    runs_after c.args.room.now _ _ _ _ (returns-in-Ok-clause-room g c)
    (run_over c.args.room.now _ c.args.capacity _ _ c.args.schema.now _ c.copied.ensures size anew made.flat c.requires.size c.requires.columns c.requires.place)

pub returns-in-Ok-clause-beside : goal.returns-in-Ok-clause-beside
returns-in-Ok-clause-beside g c = λ other is.
    let pack = c.args.room.now.pack in
    let before = flat_rests _ _ _ c.make_room.ensures.rests pack other is.table in
    let anew = anew_rests _ _ _ c.make_room.ensures.rests c.requires.ready in
    let apart = lives_apart _ _ _ anew.ready before.made.lives in
    let made = flat_lasts pack other (one c.args.vault.now.next) _ _ c.in_ok-region.ensures.makes.ran.ok.lasts apart before in
    let now = flat_lasts pack other (one c.in_ok-region.region) _ _ c.in-Ok.ensures.ok.lasts (λ same. apart (same ∙ c.in_ok-region.ensures.makes.number)) made in
    runs_after _ _ _ other _ (returns-in-Ok-clause-room g c) (record { ready = anew_lasts c.in-Ok.ensures.ok.lasts (anew_lasts c.in_ok-region.ensures.makes.ran.ok.lasts anew); table = now; size = is.size; columns = is.columns; place = is.place })
