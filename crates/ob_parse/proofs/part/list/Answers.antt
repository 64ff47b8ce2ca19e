use Rattle.std.proofs.Common.{[], ◌∷◌, ◌++◌, Ok, sym, ◌∙◌, ap}
use Rattle.ob_grammar.specs.Reader.{listed}
use Rattle.ob_grammar.proofs.Loops.{left_end, start_stuck}
use Rattle.ob_token.specs.declared.token.Mark.TheVariants as M
use Rattle.ob_condition.specs.Marks.{key}
use Rattle.ob_condition.proofs.Faults.{fewer, through}
use Rattle.ob_parse.proofs.Parts.{parts_next, parts_start, parts_stuck}
use Rattle.ob_parse.proofs.part.list.Goals as goal

pub returns-in-Err : goal.returns-in-Err
returns-in-Err g c =
    through c.in-Err.fault (g.T.Part.reading c.args.text.now c.args.tokens.now) (listed (key M.Comma) (g.T.Part.reading c.args.text.now) c.args.tokens.now)
    (start_stuck (key M.Comma) (λ v. v ∷ []) (λ s v. s ++ v ∷ []) (g.T.Part.reading c.args.text.now) c.args.tokens.now) c.in-Err.ensures.value

pub parts-init : goal.parts-init
parts-init g c =
    parts_start (g.T.Part.reading c.args.text.now) c.args.tokens.now c.new-found.result.items c.push.new.self.items c.in-Ok.first.0 c.in-Ok.first.1.now c.new-found.ensures.items
    c.in-Ok-push.ensures.items c.in-Ok.ensures.value

pub parts-smaller : goal.parts-smaller
parts-smaller g c = fewer c.parts.rest.now c.in-Some.after.now c.in-Ok-read.next.now c.in-Some.ensures.0 c.in-Some.ensures.3 c.in-Ok-read.ensures.within

pub parts-preserved : goal.parts-preserved
parts-preserved g c =
    parts_next (g.T.Part.reading c.args.text.now) c.args.tokens.now c.parts.found.items c.push-in-Ok-read.new.self.items c.in-Ok-read.part c.in-Some.ensures.0 c.parts.rest.now
    c.in-Some.after.now c.in-Ok-read.next.now c.parts.invariant c.in-Some.ensures.2 c.in-Some.ensures.3 c.in-Ok-push-2.ensures.items c.in-Ok-read.ensures.value
    c.in-Ok-read.ensures.within

pub returns-in-Err-read : goal.returns-in-Err-read
returns-in-Err-read g c =
    through c.in-Err-read.fault (g.T.Part.reading c.args.text.now c.in-Some.after.now) (listed (key M.Comma) (g.T.Part.reading c.args.text.now) c.args.tokens.now)
    (λ rest. parts_stuck (g.T.Part.reading c.args.text.now) c.args.tokens.now c.parts.found.items c.in-Some.ensures.0 c.parts.rest.now c.in-Some.after.now rest c.parts.invariant
    c.in-Some.ensures.2 c.in-Some.ensures.3)
    c.in-Err-read.ensures.value

pub returns : goal.returns
returns g c =
    left_end (key M.Comma) (λ v. v ∷ []) (λ s v. s ++ v ∷ []) (g.T.Part.reading c.args.text.now) c.args.tokens.now c.parts.found.items c.parts.rest.now c.parts.invariant c.in_default.ensures
    ∙ ap (λ vs. Ok (vs, c.parts.rest.now)) (sym c.from_vec.ensures)
