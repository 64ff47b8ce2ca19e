-- A SELECT of totals in flight of which nothing was asked.
use Rattle.std.proofs.Common.{◌≡◌, ◌≤◌, ℕ, [], Option, refl, sym, ◌∙◌, subst, arith}
use Rattle.ob_base.specs.declared.config.Public.{Public}
use Rattle.ob_base.specs.Limits.{buffered}
use Rattle.ob_row.specs.Condition.{Condition}
use Rattle.ob_script.specs.Flights.{flight_public}
use Rattle.ob_script.specs.Parts.{count_part}
use Rattle.ob_script.specs.Script.{whole_script}
use Rattle.ob_vault.specs.State.{World}
use Rattle.ob_vault.specs.Tied.{Ready}
use Rattle.ob_flat.specs.declared.flat.Flat.{Flat}
use Rattle.ob_flat.specs.Scans.{MayScan}
use Rattle.ob_flat.specs.Words.{blocks_of}
use Rattle.ob_sql.specs.declared.stmt.SelectTotals.{SelectTotals}
use Rattle.ob_sql.specs.declared.stmt.Stmt.TheVariants.{SelectTotals as TotalsStmt}
use Rattle.ob_sql.specs.Skeleton.{skeleton}
use Rattle.ob_mean.specs.Conditions.{where_at}
use Rattle.ob_verdict.specs.declared.outcome.Outcome.{Outcome}
use Rattle.ob_stages.specs.declared.reading.Reading.{Reading}
use Rattle.ob_stages.specs.Reading.{Answered, IsBoarded, IsReading, MayBoard, StartsReading, places_of}
use Rattle.ob_stages.specs.Totalling.{TotalsFit}

module _ (p : Public) (n : ℕ) (s : SelectTotals) (t : Flat) (c : Condition) (r : Reading) (starts : StartsReading p n s t c r) where
  boarded : MayBoard p n s t c → IsBoarded r
  boarded may = record {
    script = λ seen.
        (λ i. whole_script (flight_public (starts.flown i) (starts.public i)) (skeleton (TotalsStmt (starts.select i))) seen)
        ∙ may.script seen
        ∙ (λ i. count_part (sym starts.flat i).region (sym starts.blocks i));
    blocks = starts.blocks ∙ (λ i. blocks_of (sym starts.public i).pack (sym starts.flat i));
    within = let none = starts.asked in omega (arith, none);
    rows = subst (λ (q : Public). q.buffer ≤ 65536) (sym starts.public) may.rows;
    meant = starts.pred ∙ may.meant ∙ (λ i. where_at (sym starts.select i).cond (sym starts.flat i).schema);
    items = subst (λ (q : SelectTotals). TotalsFit r.flat.schema q) (sym starts.select) (subst (λ (f : Flat). TotalsFit f.schema s) (sym starts.flat) may.items);
  }

  pub starts_table : (w : World) → MayScan p.pack t w → MayScan r.public.now.pack r.flat w
  starts_table w may = subst (λ (q : Public). MayScan q.pack r.flat w) (sym starts.public) (subst (λ (f : Flat). MayScan p.pack f w) (sym starts.flat) may)

  pub starts_reading : MayBoard p n s t c → (w : World) → Ready w → MayScan p.pack t w → IsReading r [] w
  starts_reading may w ready table = record {
    ready = ready;
    boarded = boarded may;
    table = starts_table w table;
    some = λ failed. absurd (cc (failed, starts.failed));
    going = λ _. starts.outcome;
    answered = subst (λ (o : Option Outcome). Answered o r [] w) (sym starts.outcome) refl;
  }

  pub starts_places : places_of r ≡ buffered (flight_public n p).pack (flight_public n p).buffer
  starts_places = λ i. buffered (flight_public (starts.flown i) (starts.public i)).pack (flight_public (starts.flown i) (starts.public i)).buffer
