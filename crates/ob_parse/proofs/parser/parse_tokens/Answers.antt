use Rattle.std.proofs.Common.{◌≡◌, ◌-◌, length, sym, ◌∙◌, ap}
use Rattle.ob_grammar.proofs.Forms.{Whatever}
use Rattle.ob_grammar.proofs.Placed.{accepted, left_behind, left_over, refused, stuck_behind}
use Rattle.ob_parse.specs.Refusal.{offset}
use Rattle.ob_parse.specs.Statements.{Statement}
use Rattle.ob_parse.specs.StatementReading.{statement}
use Rattle.ob_token.proofs.Emptiness.{is_none, is_some}
use Rattle.ob_parse.proofs.GoodStatements.{any_end, good_statement}
use Rattle.ob_parse.proofs.parser.parse_tokens.Goals as goal

pub returns-then-is_empty-clause-found : goal.returns-then-is_empty-clause-found
returns-then-is_empty-clause-found c =
    accepted (Statement c.args.text.now) Whatever (statement c.args.text.now) (good_statement c.args.text.now) any_end c.args.tokens.now c.in-Ok.found c.in-Ok.rest.now c.in-Ok.ensures
    (is_none c.in-Ok.rest.now c.is_empty.result c.is_empty.ensures c.if-is_empty.true)

pub returns-else-is_empty-clause-refused : goal.returns-else-is_empty-clause-refused
returns-else-is_empty-clause-refused c =
    let left = left_over (Statement c.args.text.now) Whatever (statement c.args.text.now) (good_statement c.args.text.now) any_end c.args.tokens.now c.in-Ok.found c.in-Ok.rest.now
    c.in-Ok.ensures (is_some c.in-Ok.rest.now c.is_empty.result c.is_empty.ensures c.if-is_empty.false) in
    let behind = left_behind (Statement c.args.text.now) Whatever (statement c.args.text.now) (good_statement c.args.text.now) c.args.tokens.now c.in-Ok.found c.in-Ok.rest.now c.in-Ok.ensures in
    record {
      front = length c.args.tokens.now - length c.in-Ok.rest.now;
      place = left.0;
      offset_is = c.offset_of.ensures ∙ ap (offset c.args.tokens.now) (sym behind);
      none = left.1;
    }

pub returns-in-Err-Stuck-clause-refused : goal.returns-in-Err-Stuck-clause-refused
returns-in-Err-Stuck-clause-refused c =
    let stuck : statement c.args.text.now c.args.tokens.now ≡ _ = rw c.in-Err-Stuck.field-0-is at c.in-Err-Stuck.ensures in
    let no = refused (Statement c.args.text.now) Whatever (statement c.args.text.now) (good_statement c.args.text.now) any_end c.args.tokens.now c.in-Err-Stuck.rest.now stuck in
    let behind = stuck_behind (Statement c.args.text.now) Whatever (statement c.args.text.now) (good_statement c.args.text.now) c.args.tokens.now c.in-Err-Stuck.rest.now stuck in
    record {
      front = length c.args.tokens.now - length c.in-Err-Stuck.rest.now;
      place = no.0;
      offset_is = c.offset_of-in-Err-Stuck.ensures ∙ ap (offset c.args.tokens.now) (sym behind);
      none = no.1;
    }
