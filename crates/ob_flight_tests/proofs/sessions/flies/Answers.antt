use Rattle.std.proofs.Common.{◌≡◌, Bool, true, false, List, refl, sym, ◌∙◌, ap, subst}
use Rattle.std.specs.Prelude.{not}
use Rattle.ob_base.specs.declared.schema.Table.{Table}
use Rattle.ob_base.specs.declared.skeleton.Skeleton.TheVariants.{Rows}
use Rattle.ob_base.specs.declared.skeleton.Source.{Source}
use Rattle.ob_base.specs.Stored.{headings_of}
use Rattle.ob_mean.specs.Refusals.{is_index}
use Rattle.ob_mean.specs.Replay.{is_access}
use Rattle.ob_script.specs.FlightLaws.{SelectsFromOne}
use Rattle.ob_sql.specs.Skeleton.{skeleton}
use Rattle.ob_sql.specs.declared.stmt.Stmt.{Stmt}
use Rattle.ob_flight_tests.proofs.sessions.flies.Goals as goal

is_false : (b : Bool) → not b ≡ true → b ≡ false
is_false true is = absurd (cc is)
is_false false is = refl

pub returns-in-Table : goal.returns-in-Table
returns-in-Table c plain = λ late.
    let p = c.args.public.now in
    let list = c.in-SelectRows.select.list in
    record {
      selects =
          subst (λ (s : Stmt). SelectsFromOne (skeleton s)) (sym c.in-SelectRows.is)
          (subst (λ (source : Source). SelectsFromOne (Rows source list)) (sym c.in-Table.is) tt);
      flat = λ free.
          ap (λ (s : Stmt). is_access p (skeleton s)) c.in-SelectRows.is
          ∙ ap (λ (source : Source). is_access p (Rows source list)) c.in-Table.is
          ∙ ap (λ (ts : List Table). is_index (headings_of ts) c.in-Table.name) (sym c.as_slice.ensures)
          ∙ sym c.is_index.ensures ∙ is_false c.is_index.result plain;
    }
