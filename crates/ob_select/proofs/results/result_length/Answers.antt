use Rattle.std.proofs.Common.{arith, ◌∙◌}
use Rattle.ob_flat.proofs.Tables.{blocks_few}
use Rattle.ob_select.proofs.ResultParts.{small_as, large_as, cont_as, hash_as, few_small, buffered_some}
use Rattle.ob_select.proofs.results.result_length.Goals as goal

pub returns-in-Small-clause-few : goal.returns-in-Small-clause-few
returns-in-Small-clause-few c =
    let p = c.args.public.now in
    rw (c.div_ceil.ensures, c.div_ceil-blocks.ensures, c.div_ceil-results.ensures, c.from.ensures, c.from-k.ensures, c.from-n.ensures, c.from-pack.ensures)
    (few_small _ _ _ c.args.n c.args.k (blocks_few _ _ (buffered_some p c.requires.settings)) (blocks_few p.pack c.args.n c.requires.settings.pack_least) (blocks_few p.pack c.args.k c.requires.settings.pack_least) c.requires.size (omega (arith, c.requires.most, c.requires.size)))

pub returns-in-Small-clause-length : goal.returns-in-Small-clause-length
returns-in-Small-clause-length c =
    λ q same size g. rw (c.in-Small.is, c.div_ceil.ensures, c.div_ceil-blocks.ensures, c.div_ceil-results.ensures, c.from.ensures, c.from-k.ensures, c.from-n.ensures, c.from-pack.ensures)
    (small_as q c.args.public.now c.args.n c.args.k g same size c.requires.settings)

pub returns-in-Large-clause-length : goal.returns-in-Large-clause-length
returns-in-Large-clause-length c =
    λ q same size g. rw (c.in-Large.is, c.div_ceil-blocks.ensures, c.from-n.ensures, c.from-pack.ensures)
    (large_as q c.args.public.now c.args.n c.args.k g same size c.requires.settings)

pub returns-in-Continuous-clause-length : goal.returns-in-Continuous-clause-length
returns-in-Continuous-clause-length c =
    λ q same size g. rw (c.in-Continuous.is, c.div_ceil-blocks.ensures, c.div_ceil-results.ensures, c.from-k.ensures, c.from-n.ensures, c.from-pack.ensures)
    (cont_as q c.args.public.now c.args.n c.args.k g same size c.requires.settings)

pub returns-in-Hash-clause-length : goal.returns-in-Hash-clause-length
returns-in-Hash-clause-length c =
    λ q same size g. rw (c.in-Hash.is, c.div_ceil-blocks.ensures, c.from-k.ensures, c.from-n.ensures, c.from-depth.ensures, c.from-pack.ensures)
    (hash_as q c.args.public.now c.args.n c.args.k g same size c.requires.settings ∙ omega arith)
