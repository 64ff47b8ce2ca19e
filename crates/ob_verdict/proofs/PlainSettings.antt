-- What a statement means goes by the settings alone of what is public, and by the tables in place.
use Rattle.std.proofs.Common.{◌≡◌, ℕ, false, List, [], ◌∷◌, length, Option, Some, None, refl, sym, ◌∙◌, ap}
use Rattle.std.specs.Prelude.{is_some, if◌then◌else◌}
use Rattle.std.specs.Option.{is_none, option_map_or, option_or}
use Rattle.ob_base.specs.declared.config.Plan.{Plan}
use Rattle.ob_base.specs.declared.config.Plan.TheVariants.{Small, Large, Continuous, Hash}
use Rattle.ob_base.specs.declared.config.Planner.{Planner}
use Rattle.ob_base.specs.declared.config.Planner.TheVariants.{Auto, Cheapest, Forced}
use Rattle.ob_base.specs.declared.config.Public.{Public}
use Rattle.ob_base.specs.declared.refusal.Refusal.{Refusal}
use Rattle.ob_base.specs.declared.seen.End.TheVariants.{Static}
use Rattle.ob_base.specs.declared.skeleton.Source.{Source}
use Rattle.ob_base.specs.declared.skeleton.Source.TheVariants.{Table as OneTable, Join}
use Rattle.ob_base.specs.Stored.{headings}
use Rattle.ob_row.specs.Slots.{Slots, selected}
use Rattle.ob_row.specs.Truth.{is_true}
use Rattle.ob_sql.specs.declared.stmt.SelectRows.{SelectRows}
use Rattle.ob_sql.specs.declared.stmt.Stmt.{Stmt}
use Rattle.ob_sql.specs.declared.stmt.Stmt.TheVariants.{Create, Insert, Update, Delete, Drop as DropTable, SelectRows as RowsStmt, SelectTotals as TotalsStmt}
use Rattle.ob_mean.specs.Refusals.{early_refusal, limits_of}
use Rattle.ob_mean.specs.Settle.{settle, settle_served, settled}
use Rattle.ob_mean.specs.Step.{accepted_answer, answered, followed, refusal_of, select_condition}
use Rattle.ob_mean.specs.Verdict.{Accessed, Draws, Tables, accessed, accessed_now, database, ended, forced_refusal, gone, is_full, is_late, last_refusal, plan_for, refusal, refusal_by, rows_refusal, seen, seen_by, seen_served, seen_started, seen_unpadded, seen_with, selected_places, source_slots, unpadded_refusal, verdict}

-- what is public except for the tables, the next region and the last closing
abbrev pub plain : Public → Public
plain p = record p { tables = []; next_region = 0; closing = None }

module _ (p : Public) (ts : Tables) where
  source_plain : (source : Source) → source_slots (plain p) source ts ≡ source_slots p source ts
  source_plain (OneTable name) = refl
  source_plain (Join a b on equals) = refl

  places_plain : (q : SelectRows) → selected_places (plain p) q ts ≡ selected_places p q ts
  places_plain q = ap (λ (slots : Slots). selected (is_true (select_condition q (headings ts))) slots) (source_plain q.source)

  forced_plain : (planner : Planner) (places : List ℕ) → forced_refusal (plain p) planner places ≡ forced_refusal p planner places
  forced_plain Auto places = refl
  forced_plain other places = refl

  unpadded_plain : (places : List ℕ) → unpadded_refusal (plain p) places ≡ unpadded_refusal p places
  unpadded_plain [] = refl
  unpadded_plain (i ∷ is) = forced_plain p.planner (i ∷ is)

  refusal_plain : (pad : Option ℕ) (places : List ℕ) → refusal_by pad (plain p) places ≡ refusal_by pad p places
  refusal_plain None places = unpadded_plain places
  refusal_plain (Some pad) places = refl

  last_plain : (stmt : Stmt) → last_refusal (plain p) ts stmt ≡ last_refusal p ts stmt
  last_plain (RowsStmt q) =
      let same : rows_refusal (plain p) (selected_places (plain p) q ts) ≡ rows_refusal p (selected_places p q ts) =
      ap (refusal_by p.pad (plain p)) (places_plain q) ∙ refusal_plain p.pad (selected_places p q ts) in
      ap (λ (o : Option Refusal). if is_some (accessed ts (RowsStmt q)) then None else o) same
  last_plain other = refl

  with_plain : (plan : Plan) (places : List ℕ) → seen_with (plain p) plan places ≡ seen_with p plan places
  with_plain Small places = refl
  with_plain other places = refl

  unpadded_seen_plain : (n : ℕ) (places : List ℕ) → seen_unpadded (plain p) n places ≡ seen_unpadded p n places
  unpadded_seen_plain n [] = refl
  unpadded_seen_plain n (i ∷ is) = with_plain (plan_for p n (i ∷ is)) (i ∷ is)

  seen_plain : (pad : Option ℕ) (n : ℕ) (places : List ℕ) → seen_by pad (plain p) n places ≡ seen_by pad p n places
  seen_plain None n places = unpadded_seen_plain n places
  seen_plain (Some pad) n places = refl

  started_plain : (stmt : Stmt) → seen_started (plain p) ts stmt ≡ seen_started p ts stmt
  started_plain (RowsStmt q) =
      let slots = source_plain q.source in
      let places = places_plain q in
      (λ i. seen_by p.pad (plain p) (length (slots i)) (places i)) ∙ seen_plain p.pad (length (source_slots p q.source ts)) (selected_places p q ts)
  started_plain other = refl

  settled_plain : (d : Draws) (stmt : Stmt) → settled d (plain p) ts stmt ≡ settled d p ts stmt
  settled_plain d (Create table columns capacity shape) = refl
  settled_plain d other = refl

-- by settings that are the same, and both late or neither
module _ (d : Draws) (p q : Public) (settings : plain p ≡ plain q) (m n : ℕ) (late : is_late m ≡ is_late n) (ts : Tables) (stmt : Stmt) where
  last_same : last_refusal p ts stmt ≡ last_refusal q ts stmt
  last_same = sym (last_plain p ts stmt) ∙ ap (λ (r : Public). last_refusal r ts stmt) settings ∙ last_plain q ts stmt

  started_same : seen_started p ts stmt ≡ seen_started q ts stmt
  started_same = sym (started_plain p ts stmt) ∙ ap (λ (r : Public). seen_started r ts stmt) settings ∙ started_plain q ts stmt

  settled_same : settled d p ts stmt ≡ settled d q ts stmt
  settled_same = sym (settled_plain p ts d stmt) ∙ ap (λ (r : Public). settled d r ts stmt) settings ∙ settled_plain q ts d stmt

  early_same : early_refusal (is_late m) (limits_of p) (headings ts) stmt ≡ early_refusal (is_late n) (limits_of q) (headings ts) stmt
  early_same = λ i. early_refusal (late i) (limits_of (settings i)) (headings ts) stmt

  refusal_same : refusal p m ts stmt ≡ refusal q n ts stmt
  refusal_same = λ i. option_or (refusal_of (late i) (limits_of (settings i)) (database ts) stmt) (last_same i)

  pub verdict_same : verdict p m ts stmt ≡ verdict q n ts stmt
  verdict_same = ap (λ (o : Option Refusal). answered o (accepted_answer (database ts) stmt)) refusal_same

  served_same : (o : Option Accessed) → seen_served d o p ts stmt ≡ seen_served d o q ts stmt
  served_same None = started_same
  served_same (Some a) = refl

  pub seen_same : seen d p m ts stmt ≡ seen d q n ts stmt
  seen_same = λ i. if is_some (early_same i) then ended Static else served_same (accessed ts stmt) i

  now_same : accessed_now p m ts stmt ≡ accessed_now q n ts stmt
  now_same = ap (λ (o : Option Refusal). if is_some o then None else accessed ts stmt) early_same

  pub full_same : is_full d p m ts stmt ≡ is_full d q n ts stmt
  full_same = ap (λ (o : Option Accessed). option_map_or (λ a. is_none (gone d a)) o false) now_same

  settle_served_same : (o : Option Accessed) → settle_served d o p m ts stmt ≡ settle_served d o q n ts stmt
  settle_served_same None = λ i. followed (refusal_same i) (settled_same i) ts
  settle_served_same (Some a) = refl

  pub settle_same : settle d p m ts stmt ≡ settle d q n ts stmt
  settle_same = ap (λ (o : Option Accessed). settle_served d o p m ts stmt) now_same ∙ settle_served_same (accessed_now q n ts stmt)
