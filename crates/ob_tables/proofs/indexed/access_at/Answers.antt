use Rattle.std.proofs.Common.{refl, slice_index_or}
use Rattle.std.proofs.lemmas.Option.{slice_get-get_or, slice_get_within}
use Rattle.ob_tables.proofs.IndexFound.{done_by}
use Rattle.ob_tables.proofs.indexed.access_at.Goals as goal

pub returns-clause-done : goal.returns-clause-done
returns-clause-done g c =
    let all = c.args.indexes.now in
    let at = c.requires.at in
    let get = slice_get-get_or all c.args.k c.index-indexes-k.result (slice_get_within all c.args.k at.0 at.1) in
    done_by c.args.stmt.now c.args.k c.args.draw c.serve.result all _ (slice_index_or all c.args.k c.index-indexes-k.result) c.serve.new.index _ _ _ _ get refl c.serve.ensures.room c.serve.ensures.gone
