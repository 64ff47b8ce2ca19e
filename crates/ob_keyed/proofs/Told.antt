-- An access of an index in a store, among the tables in place.
use Rattle.std.proofs.Common.{◌≡◌, ◌+◌, ◌-◌, ◌*◌, ◌^◌, ℕ, true, false, List, Option, Some, None, Result, Ok, Err, length, refl, sym, ◌∙◌, ap, subst}
use Rattle.std.specs.Prelude.{MatchResult, is_some}
use Rattle.std.specs.List.{All}
use Rattle.std.specs.Option.{option_and_then, option_map}
use Rattle.ob_base.specs.declared.config.Public.{Public}
use Rattle.ob_base.specs.declared.schema.Heading.{Heading}
use Rattle.ob_base.specs.declared.schema.Shape.TheVariants.{Indexed}
use Rattle.ob_base.specs.Indexes.{by_shape, height_of}
use Rattle.ob_base.specs.Stored.{Stored, heading_at, headings, headings_of, stored_at}
use Rattle.ob_mean.specs.Keyed.{Ask, Find, ask_of}
use Rattle.ob_mean.specs.Lawful.{selects_rows}
use Rattle.ob_mean.specs.Refusals.{early_refusal, limits_of}
use Rattle.ob_mean.specs.Replay.{cut_at}
use Rattle.ob_mean.specs.Verdict.{Accessed, Draws, Held, Tables, access_of, accessed, held_as, index_of, is_full, is_late, keyed_table, next_draw, seen, tree_size, went}
use Rattle.ob_mean.proofs.VerdictLemmas.{heading-stored, index_again}
use Rattle.ob_oram.specs.declared.fault.OramErr.{OramErr}
use Rattle.ob_oram.specs.declared.fault.OramErr.TheVariants.{Failed, Tampered, StashFull}
use Rattle.ob_oram.specs.declared.index.Index.{Index}
use Rattle.ob_oram.specs.declared.op.Got.{Got}
use Rattle.ob_oram.specs.Indexes.{IsStoredAs}
use Rattle.ob_oram.specs.Short.{AsksReads}
use Rattle.ob_vault.specs.Words.{IsHonest}
use Rattle.ob_path.specs.Access as Tree
use Rattle.ob_path.specs.Access.{Went}
use Rattle.ob_path.specs.States.{State}
use Rattle.ob_row.specs.Keys.{key_at}
use Rattle.ob_row.specs.Rows.{Row}
use Rattle.ob_row.specs.Spelling.{FitsColumns}
use Rattle.ob_script.specs.Script.{script}
use Rattle.ob_sql.specs.declared.stmt.Stmt.{Stmt}
use Rattle.ob_sql.specs.declared.stmt.Stmt.TheVariants.{Create, Insert, Update, Delete, Drop as DropTable, SelectRows as RowsStmt, SelectTotals as TotalsStmt}
use Rattle.ob_sql.specs.Skeleton.{skeleton}
use Rattle.ob_vault.specs.State.{World}
use Rattle.ob_verdict.specs.Answering.{found}
use Rattle.ob_verdict.specs.Laws.{AreInPlace, IsStarted}
use Rattle.ob_verdict.proofs.AccessProof.{asked_of}
use Rattle.ob_verdict.proofs.AccessedProof.{access_public}
use Rattle.ob_keyed.specs.declared.keyed.Keyed.{Keyed}
use Rattle.ob_keyed.specs.Answering.{got_answer, got_outcome}
use Rattle.ob_keyed.specs.Asking.{IsKeyed}
use Rattle.ob_keyed.specs.Meaning.{AnswersAsk, IsIndexOf, StopsAsk}
use Rattle.ob_keyed.specs.Meant.{AccessAt, FindsAccess, KeyedMeans, MeansAccess, MeansKeyed, StopsKeyed, ToldKeyed}
use Rattle.ob_keyed.specs.Seeing.{seen_whole}
use Rattle.ob_keyed.specs.Serving.{ServesKeyed}
use Rattle.ob_keyed.proofs.Asked.{heading_is}
use Rattle.ob_keyed.proofs.Joining.{height_is}
use Rattle.ob_keyed.proofs.Found.{found_fits, held_fit}
use Rattle.ob_keyed.proofs.Meant.{accesses_mean, indexed}
use Rattle.ob_keyed.proofs.Seen.{accesses, cuts_alike, shows_script}

abbrev accessing : Stored Held → Ask → Accessed
accessing t ask = record { table = t; ask = ask }

-- ---- the table in place
module _ (p : Public) (m : ℕ) (ts : Tables) (stmt : Stmt) (t : Stored Held) (index : Index) (on : IsKeyed p m stmt index) (same : headings ts ≡ headings_of p.tables) (there : stored_at on.name ts ≡ Some t) where
  heading_same : t.heading ≡ on.table.heading
  heading_same =
      let here = heading-stored on.name ts ∙ ap (option_map (λ (u : Stored Held). u.heading)) there in
      let stated = ap (heading_at on.name) same ∙ heading_is p m stmt index on in
      cc (here, stated)

  started : IsStarted p m ts stmt
  started = ap (λ (hs : List Heading). early_refusal (is_late m) (limits_of p) hs stmt) same ∙ on.accepted

  named : keyed_table ts stmt ≡ Some t
  named = ap (option_and_then (λ (n : List ℕ). stored_at n ts)) on.keyed ∙ there

  indexed_is : t.heading.shape ≡ Indexed
  indexed_is = ap (λ (h : Heading). h.shape) heading_same ∙ on.shaped

  asked_by : (o : Option Ask) → ask_of t.heading stmt ≡ o → accessed ts stmt ≡ option_map (accessing t) o
  asked_by o is =
      ap (option_and_then (access_of stmt)) named
      ∙ (λ j. by_shape (indexed_is j) None (option_map (accessing t) (is j)))

  find : (o : Option Ask) → ask_of t.heading stmt ≡ o → AccessAt p m ts stmt t index
  find None is =
      let none : is_some (accessed ts stmt) ≡ false = ap (λ (x : Option Accessed). is_some x) (asked_by None is) in
      let some = sym (access_public p ts same (is_late m) (limits_of p) stmt started) ∙ accesses p m stmt index on in
      absurd (cc (none, some))
  find (Some ask) is = record {
    ask = ask;
    asked = is;
    is = asked_by (Some ask) is;
    index_is = subst (λ (h : Heading). IsIndexOf h index) (sym heading_same) on.is;
    started = started;
  }

pub finds_access : FindsAccess
finds_access p m ts stmt t index on same there = find p m ts stmt t index on same there (ask_of t.heading stmt) refl

-- ---- its meaning
module _ (d : Draws) (p : Public) (m : ℕ) (ts : Tables) (stmt : Stmt) (t : Stored Held) (index left : Index) (keyed : Keyed) (old new : World) (on : IsKeyed p m stmt index) (at : AccessAt p m ts stmt t index)
    (place : AreInPlace p.stash ts) (lies : IsStoredAs index (index_of t.heading t.held) old) (serves : ServesKeyed stmt index left (next_draw d) keyed old new) where
  abbrev a : Accessed
  a = record { table = t; ask = at.ask }

  means : MeansAccess d p m ts stmt a
  means = accesses_mean d p m ts stmt a at.started place at.is

  leaf_same : left.height ≡ height_of t.heading.capacity
  leaf_same = ap (λ (x : Index). x.height) serves.asked.same ∙ height_is t.heading index at.index_is

  -- a row that it found
  fits_by : (s : Stmt) (w : Went Row) → ask_of t.heading s ≡ Some at.ask → went (next_draw d) t at.ask ≡ Some w → selects_rows s ≡ true → All (FitsColumns t.heading.schema) (found w.got)
  fits_by (RowsStmt q) w asked goes chosen =
      let b = asked_of t.heading.schema q.cond Find at.ask asked in
      let in_place = indexed d p m ts stmt a at.started place at.is in
      found_fits t.heading.capacity (key_at t.heading.schema) (height_of t.heading.capacity) (next_draw d) (index_of t.heading t.held) b.number w t.heading.schema in_place.leaves in_place.stands
      (ap (went (next_draw d) t) (sym b.is) ∙ goes) (held_fit t index old at.index_is lies.lies)
  fits_by other w asked goes chosen = absurd (cc chosen)

  told : (got : Got) → AnswersAsk t left at.ask (next_draw d) got new → ToldKeyed d p m ts stmt t left got new
  told got answers =
      let w = answers.meant in
      let law = means.answers w answers.is in
      let size : length w.state.tree ≡ tree_size t.heading =
      answers.lies.stands.size ∙ ap (λ (h : ℕ). 4 * (2 ^ (h + 1) - 1)) leaf_same in
      record {
        room = law.room;
        answer = law.answer ∙ ap (got_answer stmt (headings ts)) (sym answers.answer);
        outcome = law.outcome ∙ ap (got_outcome stmt) (sym answers.answer);
        after = held_as w.state;
        settled = law.settled;
        fits = λ chosen. subst (λ (g : Tree.Got Row). All (FitsColumns t.heading.schema) (found g)) (sym answers.answer) (fits_by stmt w at.asked answers.is chosen);
        lies = subst (λ (s : State Row). IsStoredAs left s new) (sym (index_again t.heading w.state size)) answers.lies;
      }

  stops : (e : OramErr) → StopsAsk t left at.ask (next_draw d) e new → StopsKeyed d p m ts stmt e
  stops Failed why = tt
  stops (Tampered q x) why = absurd why
  stops StashFull why = means.full why.full

  by_result : (r : Result Got OramErr) → MatchResult r (λ got. AnswersAsk t left at.ask (next_draw d) got new) (λ e. StopsAsk t left at.ask (next_draw d) e new)
      → MatchResult r (λ got. ToldKeyed d p m ts stmt t left got new) (λ e. StopsKeyed d p m ts stmt e)
  by_result (Ok got) answers = told got answers
  by_result (Err e) why = stops e why

  -- its stash is full
  room : IsHonest old new → is_full d p m ts stmt ≡ true → AsksReads index old new
  room honest full = serves.room honest t at.ask at.index_is at.asked lies (none (went (next_draw d) t at.ask) refl)
    where
      none : (o : Option (Went Row)) → went (next_draw d) t at.ask ≡ o → o ≡ None
      none None is = refl
      none (Some w) is = let free = (means.answers w is).room in absurd (cc (full, free))

  shown : seen d p m ts stmt ≡ seen_whole keyed.leaf
  shown = means.shown ∙ ap (λ (leaf : ℕ). seen_whole leaf) (sym (serves.leaf t at.ask at.index_is at.asked lies.lies.leaves))

  means_keyed : MeansKeyed d p m ts stmt t index left keyed old new
  means_keyed = record {
    shown = shown;
    cut = λ failed n. ap (cut_at failed n p (skeleton stmt)) shown ∙ cuts_alike failed n p (skeleton stmt) keyed.leaf;
    asks = ap (script p (skeleton stmt)) shown ∙ (shows_script p m stmt index on keyed.leaf serves.asked.below).whole;
    told = λ honest. by_result keyed.result (serves.told honest t at.ask at.index_is at.asked lies);
    room = room;
  }

pub keyed_means : KeyedMeans
keyed_means d p m ts stmt t index left keyed old new on same place there lies serves =
    means_keyed d p m ts stmt t index left keyed old new on (finds_access p m ts stmt t index on same there) place lies serves
