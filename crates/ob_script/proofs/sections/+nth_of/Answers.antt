use Rattle.std.proofs.Common.{◌≡◌, suc, ◌<◌, ◌∷◌, length, subst, rules, arith}
use Rattle.std.specs.Prelude.{All}
use Rattle.std.proofs.lemmas.List.{length-append}
use Rattle.ob_script.specs.Sections.{accesses_of, all_accesses, IsSized}
use Rattle.ob_script.proofs.sections.+nth_of.Goals as goal

pub nth_of-requires : goal.nth_of-requires
nth_of-requires t c =
    let split : c.args.sections.now ≡ c.in-Some.section.now ∷ c.in-Some.rest.now = search rules in
    let within : c.args.i < length (all_accesses (c.in-Some.section.now ∷ c.in-Some.rest.now)) = subst (λ ps. c.args.i < length (all_accesses ps)) split c.requires.within in
    let sum = length-append (accesses_of c.in-Some.section.now) (all_accesses c.in-Some.rest.now) in
    (search rules, (λ k d h. subst (All IsSized) split c.requires.sized (suc k) d (omega arith), omega (arith, c.len-len.ensures.value)))
