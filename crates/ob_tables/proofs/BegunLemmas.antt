-- The first changed block that a statement reads is one that its meaning reads.
use Rattle.ob_tables.proofs.Words.{Access, AfterCount, ap, append-nil, append_assoc, behind_run, count_of, Cut, Draws, drop, End, Engine, Err, false, insert_part, Batched, FalseRead, List, None, Ok, Option, Outcome, Public, RanStatement, refl, Result, RevState, rewrite_part, run_script, RunCause, RunStop, Seen, seen, selects_rows, skeleton, Some, Static, Stmt, StoreState, sym, Tables, Whole, whole_run, with_table, World, world_of, ℕ, [], ◌++◌, ◌∙◌, ◌≡◌}
use Rattle.std.proofs.lemmas.List.{take-append-drop}
use Rattle.ob_tables.specs.declared.stop.RunStop.TheVariants as Stops
use Rattle.ob_script.specs.Script.{mutation_script, shape_script, until_end}
use Rattle.ob_vault.specs.Tied.{ReadsIn}
use Rattle.ob_vault.proofs.WorldSteps.{reads_on}
use Rattle.ob_sql.specs.declared.stmt.Stmt.TheVariants.{Create, Insert, Update, Delete, Drop as DropTable, SelectRows as RowsStmt, SelectTotals as TotalsStmt}
use Rattle.ob_mean.specs.Verdict.{ended as seen_to}
use Rattle.ob_select.proofs.LieLemmas.{calm_reads, ends_reads}
use Rattle.ob_tables.specs.Telling.{meant_script}

pub run_reads : (result : Result Outcome RunStop) (old new : World) (lie : FalseRead) → RunCause result old new → old.store.lie ≡ None → new.store.lie ≡ Some lie → ReadsIn lie new.store.asked
run_reads (Err (Stops.Tampered q x)) old new lie cause none told = ends_reads old new lie cause.2 none told
run_reads (Err Stops.KeeperFault) old new lie cause none told = absurd cause
run_reads other old new lie cause none told = calm_reads old new lie cause.1 none told

-- ---- a statement whose accesses follow from what is public, where it reads no leaf
until_part : (end : End) (all : List Access) → (rest : List Access) × (until_end end all ++ rest ≡ all)
until_part Static all = (all, refl)
until_part Whole all = ([], append-nil all)
until_part AfterCount all = ([], append-nil all)
until_part Batched all = (all, refl)
until_part (Cut n) all = (drop n all, take-append-drop n all)

plain_run : (p : Public) (stmt : Stmt) (a b : Seen) → selects_rows stmt ≡ false → a.leaf ≡ b.leaf → whole_run p (skeleton stmt) a ≡ whole_run p (skeleton stmt) b
plain_run p (Insert table columns values) a b plain leaf = ap (λ (l : Option ℕ). with_table table p (shape_script p l (mutation_script p insert_part (behind_run p)))) leaf
plain_run p (Update table sets cond) a b plain leaf = ap (λ (l : Option ℕ). with_table table p (shape_script p l (mutation_script p rewrite_part (behind_run p)))) leaf
plain_run p (Delete table cond) a b plain leaf = ap (λ (l : Option ℕ). with_table table p (shape_script p l (mutation_script p rewrite_part (behind_run p)))) leaf
plain_run p (RowsStmt s) a b plain leaf = absurd (cc plain)
plain_run p other a b plain leaf = refl

pub begun_plain : {R : Type 0} (state : R → RevState) (stmt : Stmt) (result : Result Outcome RunStop) (old : Engine R) (s : StoreState) (new : Engine R) (t : StoreState) (tables : Tables) (d : Draws)
    → selects_rows stmt ≡ false → new.seen.leaf ≡ None → RanStatement state (skeleton stmt) result old s new t → seen d old.public (count_of old s) tables stmt ≡ seen_to Whole → s.lie ≡ None
    → (lie : FalseRead) → t.lie ≡ Some lie → ReadsIn lie (s.asked ++ meant_script d old.public (count_of old s) tables stmt)
begun_plain state stmt result old s new t tables d plain unread ran whole none lie told =
    let all = whole_run old.public (skeleton stmt) new.seen in
    let part = until_part new.seen.end all in
    let meant : meant_script d old.public (count_of old s) tables stmt ≡ all = ap (run_script old.public (skeleton stmt)) whole ∙ plain_run old.public stmt (seen_to Whole) new.seen plain (sym unread) in
    reads_on lie t.asked part.0 (s.asked ++ meant_script d old.public (count_of old s) tables stmt)
    (ap (λ (l : List Access). s.asked ++ l) (meant ∙ sym part.1) ∙ sym (append_assoc s.asked (until_end new.seen.end all) part.0) ∙ ap (λ (l : List Access). l ++ part.0) (sym ran.asked))
    (run_reads result (world_of state old s) (world_of state new t) lie ran.cause none told)
