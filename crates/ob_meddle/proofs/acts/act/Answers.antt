use Rattle.std.proofs.Common.{◌∙◌, sym, ap}
use Rattle.ob_meddle.specs.Acts.{rests_of, stands_of, after_act}
use Rattle.ob_meddle.specs.declared.meddle.Act.{Act}
use Rattle.ob_meddle.proofs.ActLemmas.{put_is}
use Rattle.ob_meddle.proofs.acts.act.Goals as goal

pub returns-in-Flip-clause-stands : goal.returns-in-Flip-clause-stands
returns-in-Flip-clause-stands c =
    put_is _ _ c.in-Flip.region c.in-Flip.place _ c.flip.ensures.here c.flip.ensures.others
    ∙ ap (λ (a : Act). after_act (rests_of c.args.regions.now) a (stands_of c.args.regions.now)) (sym c.in-Flip.is)

pub returns-in-Copy-clause-stands : goal.returns-in-Copy-clause-stands
returns-in-Copy-clause-stands c =
    put_is _ _ c.in-Copy.to.region c.in-Copy.to.place _ c.copy.ensures.here c.copy.ensures.others
    ∙ ap (λ (a : Act). after_act (rests_of c.args.regions.now) a (stands_of c.args.regions.now)) (sym c.in-Copy.is)

pub returns-in-Older-clause-stands : goal.returns-in-Older-clause-stands
returns-in-Older-clause-stands c =
    put_is _ _ c.in-Older.region c.in-Older.place _ c.age.ensures.here c.age.ensures.others
    ∙ ap (λ (a : Act). after_act (rests_of c.args.regions.now) a (stands_of c.args.regions.now)) (sym c.in-Older.is)
