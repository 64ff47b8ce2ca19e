use Rattle.std.proofs.Common.{◌∙◌}
use Rattle.std.proofs.lemmas.List.{take_at}
use Rattle.ob_reopen.proofs.writing.fill_row.Goals as goal

pub returns-clause-text : goal.returns-clause-text
returns-clause-text c =
    take_at c.put_text.new.text c.fill.new.self 1024 (c.put_text.auto.text ∙ c.split_at_mut-text.ensures.front_len) ∙ c.put_text.ensures
