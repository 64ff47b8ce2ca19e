-- An INSERT changes what stands at its table's name and leaves each heading, so that others are refused alike after it.
use Rattle.std.proofs.Common.{◌≡◌, ℕ, Bool, true, false, List, [], ◌∷◌, Option, Some, None, refl, ◌∙◌, ap}
use Rattle.std.specs.Prelude.{bytes_eq, if◌then◌else◌}
use Rattle.std.specs.List.{All}
use Rattle.std.specs.Option.{option_map_or}
use Rattle.std.proofs.lemmas.List.Elements.{All-head, All-tail}
use Rattle.ob_base.specs.declared.config.Public.{Public}
use Rattle.ob_base.specs.declared.refusal.Refusal.{Refusal}
use Rattle.ob_base.specs.Stored.{Stored, changed_at, headings}
use Rattle.ob_path.specs.Access.{Went}
use Rattle.ob_row.specs.Rows.{Row}
use Rattle.ob_sql.specs.declared.stmt.Stmt.{Stmt}
use Rattle.ob_sql.specs.declared.stmt.Stmt.TheVariants.{Create, Insert, Update, Delete, Drop as DropTable, SelectRows as RowsStmt, SelectTotals as TotalsStmt}
use Rattle.ob_mean.specs.Batches.{settle_all}
use Rattle.ob_mean.specs.Settle.{settle, settle_served, settled}
use Rattle.ob_mean.specs.Step.{followed}
use Rattle.ob_mean.specs.Verdict.{Accessed, Draws, Held, Tables, access_settled, accessed_now, gone, held_as, refusal}
use Rattle.ob_mean.proofs.BatchLemmas.{Inserts}
use Rattle.ob_verdict.proofs.AlikeTables.{headings_changed}

-- ---- one table changed twice
module _ {A : Type 0} (name : List ℕ) (f g : A → A) where
  abbrev both_at : List (Stored A) → List (Stored A)
  both_at ts = changed_at name (λ x. f (g x)) ts

  abbrev as_held : (A → A) → Stored A → Stored A
  as_held h t = record { heading = t.heading; held = h t.held }

  pub changed_twice : (ts : List (Stored A)) → changed_at name f (changed_at name g ts) ≡ both_at ts
  changed_twice [] = refl
  changed_twice (t ∷ ts) = go (bytes_eq t.heading.name name) refl (changed_twice ts) where
    go : (b : Bool) → bytes_eq t.heading.name name ≡ b → changed_at name f (changed_at name g ts) ≡ both_at ts
        → changed_at name f (if b then as_held g t ∷ ts else t ∷ changed_at name g ts) ≡ (if b then as_held (λ x. f (g x)) t ∷ ts else t ∷ both_at ts)
    go true is rest = ap (λ (b : Bool). if b then as_held (λ x. f (g x)) t ∷ ts else as_held g t ∷ changed_at name f ts) is
    go false is rest =
        ap (λ (b : Bool). if b then as_held f t ∷ changed_at name g ts else t ∷ changed_at name f (changed_at name g ts)) is
        ∙ ap (λ (us : List (Stored A)). t ∷ us) rest

-- ---- the headings stay
module _ (d : Draws) (p : Public) where
  settled_headings : (ts : Tables) (stmt : Stmt) → Inserts stmt → headings (settled d p ts stmt) ≡ headings ts
  settled_headings ts (Insert table columns values) inserts = headings_changed table _ ts
  settled_headings ts other inserts = absurd (cc inserts)

  pub settle_headings : (m : ℕ) (ts : Tables) (stmt : Stmt) → Inserts stmt → headings (settle d p m ts stmt) ≡ headings ts
  settle_headings m ts stmt inserts = by_access (accessed_now p m ts stmt)
    where
      by_refusal : (r : Option Refusal) → headings (followed r (settled d p ts stmt) ts) ≡ headings ts
      by_refusal None = settled_headings ts stmt inserts
      by_refusal (Some r) = refl

      by_went : (a : Accessed) (o : Option (Went Row)) → headings (option_map_or (access_settled ts a.table) o ts) ≡ headings ts
      by_went a None = refl
      by_went a (Some w) = headings_changed a.table.heading.name (λ (held : Held). held_as w.state) ts

      by_access : (o : Option Accessed) → headings (settle_served d o p m ts stmt) ≡ headings ts
      by_access None = by_refusal (refusal p m ts stmt)
      by_access (Some a) = by_went a (gone d a)

  pub settle_all_headings : (m : ℕ) (stmts : List Stmt) (ts : Tables) → All Inserts stmts → headings (settle_all d p m stmts ts) ≡ headings ts
  settle_all_headings m [] ts inserts = refl
  settle_all_headings m (stmt ∷ stmts) ts inserts =
      settle_all_headings m stmts (settle d p m ts stmt) (All-tail Inserts stmt stmts inserts)
      ∙ settle_headings m ts stmt (All-head Inserts stmt stmts inserts)
