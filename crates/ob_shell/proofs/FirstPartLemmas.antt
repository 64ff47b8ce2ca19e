-- What a statement asks is a first part of what its meaning asks.
use Rattle.ob_shell.proofs.Words.{Access, AfterCount, ap, append-nil, AreDraws, arith, asked_of, Begins, Bool, Does, Draws, early_refusal, End, Err, false, headings, held_headings, is_fault, is_full_now, is_late, length, length-append, limits_of, List, Machine, met_script, None, Ok, Option, Outcome, Plan, Public, public_of, ReadsTrueUntil, refl, Result, RevState, RunStop, script, Seen, seen_of, session_of, skeleton, Some, statements_of, Stmt, subst, sym, Tables, true, Whole, whole_script, ℕ, [], ◌∷◌, ◌≡◌, ◌≤◌}
use Rattle.std.proofs.Common.{cond}
use Rattle.ob_base.specs.declared.config.Plan.TheVariants.{Continuous}
use Rattle.ob_tables.specs.Telling.{ReadsTrue, Told, is_refused}
use Rattle.ob_headline.proofs.CutLemmas.{cut_begins}
use Rattle.ob_headline.proofs.FullLemmas.{met_begins}
use Rattle.ob_mean.proofs.VerdictLemmas.{seen_late}
use Rattle.ob_mean.specs.Replay.{cut_at, reads_of}
use Rattle.ob_mean.specs.Verdict.{Accessed, accessed, counted, seen, seen_by, seen_served, seen_started, seen_with}
use Rattle.ob_script.specs.Script.{until_end}
use Rattle.ob_shell.proofs.ReplayLemmas.{cut_early}
use Rattle.ob_sql.specs.declared.stmt.Stmt.TheVariants.{SelectRows as RowsStmt}

pub begins_length : (part whole : List Access) → Begins part whole → length part ≤ length whole
begins_length part whole b = omega (arith, ap length b.joined, length-append part b.rest)

begins_all : (all : List Access) → Begins all all
begins_all all = record { rest = []; joined = sym (append-nil all) }

-- ---- any statement, while what is read was written there
-- the meaning of a statement that isn't refused early asks all of it
abbrev IsToEnd : End → Type 0
IsToEnd Whole = Unit {0}
IsToEnd AfterCount = Unit {0}
IsToEnd other = ⊥

with_ends : (p : Public) (plan : Plan) (places : List ℕ) → IsToEnd (seen_with p plan places).end
with_ends p Continuous places = go _ where
  go : (b : Bool) → IsToEnd (cond b (counted (length places) (Some Continuous) None Whole) (counted (length places) None None AfterCount)).end
  go true = tt
  go false = tt
with_ends p other places = tt

rows_end : (pad : Option ℕ) (p : Public) (n : ℕ) (places : List ℕ) → IsToEnd (seen_by pad p n places).end
rows_end (Some pad) p n places = tt
rows_end None p n [] = tt
rows_end None p n (i ∷ is) = with_ends p _ (i ∷ is)

started_ends : (p : Public) (tables : Tables) (stmt : Stmt) → IsToEnd (seen_started p tables stmt).end
started_ends p tables (RowsStmt q) = rows_end p.pad p _ _
started_ends p tables other = tt

served_ends : (d : Draws) (o : Option Accessed) (p : Public) (tables : Tables) (stmt : Stmt) → IsToEnd (seen_served d o p tables stmt).end
served_ends d None p tables stmt = started_ends p tables stmt
served_ends d (Some a) p tables stmt = tt

to_end : (end : End) (all : List Access) → IsToEnd end → until_end end all ≡ all
to_end Whole all ends = refl
to_end AfterCount all ends = refl
to_end other all ends = absurd ends

-- what was asked of a statement that was cut off after n accesses is a first part of what its meaning asks
begins_cut : (d : Draws) (p : Public) (m : ℕ) (tables : Tables) (stmt : Stmt) (failed : Bool) (n : ℕ) → early_refusal (is_late m) (limits_of p) (headings tables) stmt ≡ None
    → Begins (script p (skeleton stmt) (cut_at failed n p (skeleton stmt) (seen d p m tables stmt))) (script p (skeleton stmt) (seen d p m tables stmt))
begins_cut d p m tables stmt failed n early =
    let sk = skeleton stmt in
    let meant = seen d p m tables stmt in
    let ends : IsToEnd meant.end = subst (λ (x : Seen). IsToEnd x.end) (sym (seen_late p m tables stmt early d)) (served_ends d (accessed tables stmt) p tables stmt) in
    subst (λ (all : List Access). Begins (script p sk (cut_at failed n p sk meant)) all) (sym (to_end meant.end (whole_script p sk meant) ends)) (cut_begins failed n p sk meant)

module _ {R : Type 0} (state : R → RevState) (m0 m1 : Machine R) (d : Draws) (drawn : AreDraws m0.engine d) (tables : Tables) (stmt : Stmt) where
  abbrev meant : Seen
  meant = seen d (public_of m0.engine) (asked_of m0) tables stmt

  abbrev IsFirstPart : Type 0
  IsFirstPart = Begins (script (public_of m0.engine) (skeleton stmt) (seen_of m1.engine)) (script (public_of m0.engine) (skeleton stmt) meant)

  as_meant : seen_of m1.engine ≡ meant → IsFirstPart
  as_meant is = subst (λ (x : Seen). Begins (script (public_of m0.engine) (skeleton stmt) x) (script (public_of m0.engine) (skeleton stmt) meant)) (sym is) (begins_all _)

  module _ (result : Result Outcome RunStop) (does : Does state m0 m1 stmt result) (reads : ReadsTrueUntil state m0.engine m0.store m1.engine m1.store tables) where
    as_cut : (failed : Bool) (n : ℕ) → seen_of m1.engine ≡ cut_at failed n (public_of m0.engine) (skeleton stmt) meant → IsFirstPart
    as_cut failed n is =
        let p = public_of m0.engine in
        let sk = skeleton stmt in
        subst (λ (x : Seen). Begins (script p sk x) (script p sk meant)) (sym is)
        (begins_cut d p (asked_of m0) tables stmt failed n (cut_early state m0 m1 tables stmt result d does failed n is reads.held))

  as_told : (failed : Bool) (outcome : Outcome) → Does state m0 m1 stmt (Ok outcome) → ReadsTrueUntil state m0.engine m0.store m1.engine m1.store tables → is_fault outcome ≡ failed
      → Told state stmt (statements_of m1.owed) d tables outcome m0.engine m0.store m1.engine m1.store → IsFirstPart
  as_told true outcome does reads e told = as_cut (Ok outcome) does reads true _ (rw e at told).seen
  as_told false outcome does reads e told = as_meant (rw e at told).seen

  -- what it reads is what was written there, also where it ended before
  truly : (result : Result Outcome RunStop) → Does state m0 m1 stmt result → ReadsTrueUntil state m0.engine m0.store m1.engine m1.store tables → m1.store.lie ≡ None
      → ReadsTrue state m0.engine m0.store m1.store tables
  truly result does reads none = record { tells = reads.tells; held = reads.held; nolie = none }

  begins_truly : (result : Result Outcome RunStop) → Does state m0 m1 stmt result → ReadsTrueUntil state m0.engine m0.store m1.engine m1.store tables → m1.store.lie ≡ None → IsFirstPart
  begins_truly (Ok outcome) does reads none = as_told (is_fault outcome) outcome does reads refl (does.means.told tables d drawn (truly (Ok outcome) does reads none))
  begins_truly (Err stop) does reads none = as_cut (Err stop) does reads (is_refused stop) _ (does.means.held tables d drawn reads)

  -- where its meaning meets a full stash it asks no more than the reads of its access
  no_longer : (result : Result Outcome RunStop) → Does state m0 m1 stmt result → ReadsTrueUntil state m0.engine m0.store m1.engine m1.store tables → m1.store.lie ≡ None
      → is_full_now (session_of m0 d tables) stmt ≡ true → length (script (public_of m0.engine) (skeleton stmt) (seen_of m1.engine)) ≤ reads_of (session_of m0 d tables) stmt
  no_longer (Ok outcome) does reads none full =
      let room = does.means.room tables d drawn (truly (Ok outcome) does reads none) in absurd (cc (full, room))
  no_longer (Err stop) does reads none full =
      let part = script (public_of m0.engine) (skeleton stmt) (seen_of m1.engine) in
      let most = (does.means.full tables d drawn reads).bound full in
      omega (arith, most, ap length does.ran.asked, length-append m0.store.asked part)

  pub begins_met : (result : Result Outcome RunStop) → Does state m0 m1 stmt result → ReadsTrueUntil state m0.engine m0.store m1.engine m1.store tables → m1.store.lie ≡ None
      → Begins (script (public_of m0.engine) (skeleton stmt) (seen_of m1.engine)) (met_script (session_of m0 d tables) stmt)
  begins_met result does reads none =
      met_begins (session_of m0 d tables) stmt (held_headings _ _ _ tables _ reads.held.held) (script (public_of m0.engine) (skeleton stmt) (seen_of m1.engine))
      (begins_truly result does reads none) (no_longer result does reads none)
