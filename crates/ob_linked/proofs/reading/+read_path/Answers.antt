use Rattle.std.proofs.Common.{◌≡◌, [], ◌∷◌, OnOk, ap, sym, subst, ◌∙◌, arith}
use Rattle.std.proofs.lemmas.List.{nil_from_length}
use Rattle.ob_linked.specs.Reading.{Told}
use Rattle.ob_linked.proofs.ReadingLemmas.{step_of, told_end, told_more}
use Rattle.ob_linked.proofs.reading.+read_path.Goals as goal

pub returns-in-Some-clause-told : goal.returns-in-Some-clause-told
returns-in-Some-clause-told g t c =
    let made = g.B.Opens.made c.args.region.now in
    let b = c.in-Some-Some.bucket.now in
    let buckets : c.args.buckets.now ≡ b ∷ c.in-Some.child.now ∷ c.in-Some.field-0-1.now = c.in-Some-Some.ensures.cases.0 ∙ ap (λ xs. b ∷ xs) c.in-Some.ensures.cases.0 in
    let rest = subst (λ m. OnOk c.read_path.result (Told m c.child_version-next.result c.in-Some-Some.below.now c.read_path.new.steps)) c.in-Ok.ensures.keeps c.read_path.ensures.told in
    subst (λ bs. OnOk c.read_path.result (Told made c.args.version bs (step_of b c.args.version c.in-Ok.contents ∷ c.read_path.new.steps))) (sym buckets)
    (told_more made b c.in-Some.child.now c.in-Some.field-0-1.now c.args.version c.child_version-next.result c.in-Ok.contents c.in-Ok.ensures.ok c.child_version-next.ensures c.read_path.result c.read_path.new.steps
    (subst (λ bs. OnOk c.read_path.result (Told made c.child_version-next.result bs c.read_path.new.steps)) c.in-Some.ensures.cases.0 rest))

pub returns-in-None-clause-told : goal.returns-in-None-clause-told
returns-in-None-clause-told g t c =
    let made = g.B.Opens.made c.args.region.now in
    let b = c.in-Some-Some.bucket.now in
    let none : c.in-Some-Some.below.now ≡ [] = nil_from_length c.in-Some-Some.below.now c.in-None.ensures.cases in
    let buckets : c.args.buckets.now ≡ b ∷ [] = c.in-Some-Some.ensures.cases.0 ∙ ap (λ xs. b ∷ xs) none in
    subst (λ bs. Told made c.args.version bs (step_of b c.args.version c.in-Ok.contents ∷ c.in-Some-Some.rest.now)) (sym buckets)
    (told_end made b c.args.version c.in-Ok.contents c.in-Ok.ensures.ok c.in-Some-Some.rest.now (omega (arith, c.requires, c.in-Some-Some.ensures.cases.1, c.in-Some-Some.ensures'.cases.1, c.in-None.ensures.cases)))
