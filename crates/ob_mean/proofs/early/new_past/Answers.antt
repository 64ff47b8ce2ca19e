use Rattle.std.proofs.Common.{[], sym, ◌∙◌}
use Rattle.ob_base.specs.Stored.{headings_of}
use Rattle.ob_mean.proofs.EarlyLemmas.{keys_few}
use Rattle.ob_mean.proofs.early.new_past.Goals as goal

pub index_past-requires : goal.index_past-requires
index_past-requires c =
    keys_few (headings_of c.as_slice.result.now) [] c.in-Some.created.columns.now c.in-Some.created.capacity (sym (c.creates_past.ensures []) ∙ c.if-creates_past.false)
