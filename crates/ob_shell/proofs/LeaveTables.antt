-- What one statement does to the tables that rest for the mark that is held, where the store gave what was written.
use Rattle.ob_shell.proofs.Words.{AllInsert, ap, AreByRegion, AreDraws, AreFlat, arith, asked_of, Base, Bool, by_fault, Does, Draws, Ending, Err, false, headings, held_headings, How, if◌then◌else◌, inl, inr, inserts_into, is_fault, is_joined, IsTrue, KeeperState, KeySet, FalseRead, List, Machine, Mark, None, Ok, Option, Outcome, Public, public_of, Ran, refl, Represents, RestsAlike, RestsOn, Result, RevState, RunStop, Seen, seen_of, seen_or_cut, Session, session_of, session_stop, settle_all, Since, Skeleton, skeleton, Some, statements_of, Stmt, StoreState, subst, sym, Tables, true, Whole, ℕ, [], ◌&&◌, ◌<◌, ◌∙◌, ◌∷◌, ◌≡◌}
use Rattle.ob_base.specs.declared.refusal.Stop.TheVariants as Stops
use Rattle.ob_base.specs.declared.skeleton.Skeleton.TheVariants as Skeletons
use Rattle.ob_exec.specs.Ran.{WasSaved, is_saved_behind, is_whole}
use Rattle.ob_script.specs.Script.{changes_tables}
use Rattle.ob_exec.specs.Saving.{HoldsSaved, SavingCause}
use Rattle.ob_headline.specs.SavedHeadline.{MayTakeMore}
use Rattle.ob_mean.specs.Replay.{Alone, CutAfter, CutWith, With, settle_or_cut}
use Rattle.ob_mean.specs.Settle.{settle}
use Rattle.ob_script.specs.Saved.{saved_public}
use Rattle.ob_shell.proofs.LeaveSteps.{Saves, own_mark, read_below, rests_now, rests_past, rests_saved, rests_stay, then_same, uncut, unsaved_same, whole_own}
use Rattle.ob_shell.proofs.LeavePath.{IsDone}
use Rattle.ob_shell.proofs.EndLemmas.{end_apart}
use Rattle.ob_shell.specs.Steps.{Owed, Owes, draws_behind, tables_behind}
use Rattle.ob_tables.proofs.TableLemmas.{tables_flat}
use Rattle.ob_tables.specs.Telling.{Kept, Meant, ReadsTrue}
use Rattle.ob_tables.specs.declared.stop.RunStop.TheVariants.{KeeperFault, NoMemory, SinkFault, StoreFault}

-- no lie was told before one in which none is
pub none_earlier : (a b : StoreState) → Since a b → b.lie ≡ None → a.lie ≡ None
none_earlier a b later none = go a.lie refl
  where
    go : (o : Option FalseRead) → a.lie ≡ o → a.lie ≡ None
    go None is = is
    go (Some lie) is = let told = later.lie lie is in absurd (cc (told, none))

-- what holds of an answer that the store didn't fail
own_of : (failed : Bool) (cut whole : Type 0) → failed ≡ false → by_fault failed cut whole → whole
own_of true cut whole own is = absurd (cc own)
own_of false cut whole own is = is

module _ {R : Type 0} (state : R → RevState) (secret salt : List ℕ) (base : Base) (keys : KeySet) (of : AreByRegion secret keys) where
  -- for the mark that is held these tables rest
  pub record Resting (m : Machine R) (tables : Tables) : Type 0 where
    pub mark : Mark
    pub is : m.keeper.held ≡ Some mark
    pub on : RestsOn secret mark (public_of m.engine) m.store.kept tables

  module _ (m0 m1 : Machine R) (stmt : Stmt) (old : Saves state salt base keys m0) (d : Draws) (drawn : AreDraws m0.engine d) (tables : Tables) (tells : IsTrue m0.store.tells) (held : Represents state m0.engine m0.store tables)
      (rests : Resting m0 tables) (honest : m1.store.lie ≡ None) where
    abbrev pub s : Session
    s = session_of m0 d tables

    abbrev p : Public
    p = public_of m0.engine

    abbrev sk : Skeleton
    sk = skeleton stmt

    -- those that were carried out with it
    abbrev owed : List Stmt
    owed = statements_of m1.owed

    -- the tables after it, where it wasn't cut off, and after all of them
    abbrev pub behind : Tables
    behind = settle d p (asked_of m0) tables stmt

    abbrev pub all_behind : Tables
    all_behind = settle_all d p (asked_of m0) (stmt ∷ owed) tables

    pub flat : AreFlat (headings tables)
    flat = subst AreFlat (sym (held_headings _ _ _ tables _ held.held)) (tables_flat (old.agrees.kept (old.agrees.saved old.saves)) old.agrees.tables)

    reads_to : (t : StoreState) → t.lie ≡ None → ReadsTrue state m0.engine m0.store t tables
    reads_to t none = record { tells = tells; held = held; nolie = none }

    -- what rested goes on to rest
    still : ((q : ℕ) → q < p.next_region → m1.store.kept q ≡ m0.store.kept q) → RestsOn secret rests.mark p m1.store.kept tables
    still same = rests_stay secret rests.mark tables p m0.store.kept m1.store.kept rests.on (λ q read. same q (read_below state m0.engine m0.store rests.on.region q old.agrees rests.on.below read))

    -- ---- tables were saved
    module _ (result : Result Outcome RunStop) (was : WasSaved state stmt owed result m0.engine m0.store m1.engine m1.store m0.keeper m1.keeper) where
      own_mid : is_fault was.outcome ≡ false
      own_mid = whole_own was.outcome _ (sym was.ran.ends ∙ was.whole)

      meant_mid : Meant state stmt owed (asked_of m0) d tables was.outcome m0.engine was.engine was.store
      meant_mid = own_of (is_fault was.outcome) _ _ own_mid (was.means.told tables d drawn (reads_to was.store (none_earlier was.store m1.store was.later honest)))

      abbrev its_mark : HoldsSaved state was.engine was.store m1.store m1.keeper → Mark
      its_mark holds = own_mark state was.engine was.store m1.store m1.keeper holds was.ran.goes_on.agrees

      rests_new : (holds : HoldsSaved state was.engine was.store m1.store m1.keeper) → RestsOn secret (its_mark holds) (saved_public (public_of was.engine)) m1.store.kept all_behind
      rests_new holds =
          rests_saved state was.engine was.store m1.store m1.keeper holds was.ran.goes_on.agrees secret (subst (AreByRegion secret) (sym (was.ran.keys ∙ old.keyed)) of)
          (subst (λ (b : Bool). IsTrue b) (sym was.ran.later.tells) tells) all_behind meant_mid.held

    -- ---- it was answered
    module _ (outcome : Outcome) (done : IsDone state m0 m1 stmt outcome) where
      abbrev does : Does state m0 m1 stmt (Ok outcome)
      does = done.does

      apart : is_joined (seen_of m1.engine).end ≡ false
      apart = ap is_joined does.ran.ends ∙ end_apart (Ok outcome) _

      abbrev pub draws_then : Draws
      draws_then = draws_behind m0 m1 stmt d

      owes_it : by_fault (is_fault outcome) (m1.owed ≡ []) (Owes m0 m1 stmt d tables)
      owes_it = done.owes tables d drawn (reads_to m1.store honest)

      none_behind : (ts : Tables) → m1.owed ≡ [] → tables_behind m1 draws_then ts ≡ ts
      none_behind ts none = ap (λ (l : List Owed). settle_all draws_then (public_of m1.engine) (asked_of m1) (statements_of l) ts) none

      -- where no tables were saved it was alone
      inserted : (table : List ℕ) → AllInsert table (stmt ∷ owed) → changes_tables sk ≡ true
      unfolding AllInsert
      inserted table all = by_skeleton sk all.0
        where
          by_skeleton : (outline : Skeleton) → inserts_into outline ≡ Some table → changes_tables outline ≡ true
          by_skeleton (Skeletons.Insert name cs) is = refl
          by_skeleton (Skeletons.Create name cs n shape) is = absurd (cc is)
          by_skeleton (Skeletons.Update name cs) is = absurd (cc is)
          by_skeleton (Skeletons.Delete name) is = absurd (cc is)
          by_skeleton (Skeletons.Drop name) is = absurd (cc is)
          by_skeleton (Skeletons.Rows source cs) is = absurd (cc is)
          by_skeleton (Skeletons.Groups name cs key) is = absurd (cc is)

      whole_saves : changes_tables sk ≡ true → (seen_of m1.engine).end ≡ Whole → is_saved_behind p sk (seen_of m1.engine).end ≡ true
      whole_saves changes whole = λ i. is_whole (whole i) && (changes i && old.saves i)

      alone : is_saved_behind p sk (seen_of m1.engine).end ≡ false → m1.owed ≡ []
      alone not = by_failed (is_fault outcome) owes_it
        where
          by_failed : (failed : Bool) → by_fault failed (m1.owed ≡ []) (Owes m0 m1 stmt d tables) → m1.owed ≡ []
          by_failed true none = none
          by_failed false owes = elim owes.whole [
            | inl none ↦ none
            | inr whole ↦ elim does.along.alike [
              | inl none ↦ none
              | inr all ↦ absurd (let saved = whole_saves (inserted all.0 all.1) whole in cc (saved, not))
            ]
          ]

      -- ---- and so it is seen
      module _ (how : How) (seen : seen_of m1.engine ≡ seen_or_cut how s stmt) where
        seen_as : (o : How) → how ≡ o → (seen_of m1.engine).end ≡ (seen_or_cut o s stmt).end
        seen_as o is = ap (λ (x : Seen). x.end) (seen ∙ ap (λ (c : How). seen_or_cut c s stmt) is)

        joined_never : (o : How) → how ≡ o → is_joined (seen_or_cut o s stmt).end ≡ true → {P : Type 0} → P
        joined_never o is joined = absurd (let here = ap is_joined (seen_as o is) in cc (here, joined, apart))

        -- they are those of its meaning where they were saved
        saved_as : (o : How) → how ≡ o → is_fault outcome ≡ false → settle_or_cut o s stmt ≡ behind
        saved_as Alone is own = refl
        saved_as (CutAfter n) is own = absurd (uncut outcome _ n own (sym does.ran.ends ∙ seen_as (CutAfter n) is))
        saved_as With is own = joined_never With is refl
        saved_as CutWith is own = joined_never CutWith is refl

        owed_same : is_fault outcome ≡ false → tables_behind m1 draws_then behind ≡ all_behind
        owed_same own = (own_of (is_fault outcome) _ _ own owes_it).same

        pub rests_then : Resting m1 (tables_behind m1 draws_then (settle_or_cut how s stmt))
        rests_then = elim does.keeper [
          | inl not ↦
              let same : settle_or_cut how s stmt ≡ tables =
              unsaved_same how s stmt old.saves flat (ap (λ (x : Seen). is_joined x.end) (sym seen) ∙ apart) (subst (λ (x : Seen). is_saved_behind p sk x.end ≡ false) seen not.1) in
              let all : tables_behind m1 draws_then (settle_or_cut how s stmt) ≡ tables = none_behind (settle_or_cut how s stmt) (alone not.1) ∙ same in
              let made = ap (λ (r : Public). r.next_region) does.ran.goes_on.public in
              record {
                mark = rests.mark;
                is = ap (λ (k : KeeperState). k.held) not.0 ∙ rests.is;
                on = subst (λ (ts : Tables). RestsOn secret rests.mark (public_of m1.engine) m1.store.kept ts) (sym all)
                    (rests_past secret rests.mark tables p (public_of m1.engine) m1.store.kept (ap (λ (r : Public). r.tables) does.ran.goes_on.public ∙ then_same p sk _ old.saves not.1)
                    (omega (arith, made)) (still (does.ran.kept old.saves not.1)));
              }
          | inr was ↦
              let holds = was.held rests.mark rests.is in
              let own : is_fault outcome ≡ false = ap is_fault was.answered ∙ own_mid (Ok outcome) was in
              let all : tables_behind m1 draws_then (settle_or_cut how s stmt) ≡ all_behind = ap (tables_behind m1 draws_then) (saved_as how refl own) ∙ owed_same own in
              record {
                mark = its_mark (Ok outcome) was holds;
                is = holds.is;
                on = subst (λ (r : Public). RestsOn secret (its_mark (Ok outcome) was holds) r m1.store.kept (tables_behind m1 draws_then (settle_or_cut how s stmt))) (sym was.public)
                    (subst (λ (ts : Tables). RestsOn secret (its_mark (Ok outcome) was holds) (saved_public (public_of was.engine)) m1.store.kept ts) (sym all) (rests_new (Ok outcome) was holds));
              }
        ]

    -- ---- the session ends with it
    -- the tables after all of them rest, or those before it
    pub record RestsLast (ending : Ending) : Type 0 where
      pub more : Bool
      pub unanswered : more ≡ true → MayTakeMore ending
      pub mark : Mark
      pub is : m1.keeper.held ≡ Some mark
      pub resting : RestsAlike secret mark m1.store.kept (if more then all_behind else tables)

    module _ (ending : Ending) where
      -- it was answered, and a sink failed
      pub last_answered : ending ≡ Ran (Err Stops.SinkFault) → (outcome : Outcome) → IsDone state m0 m1 stmt outcome → RestsLast ending
      last_answered ends outcome done = by_failed (is_fault outcome) refl (done.does.means.told tables d drawn (reads_to m1.store honest)) (owes_it outcome done)
        where
          by_failed : (failed : Bool) → is_fault outcome ≡ failed → by_fault failed (Kept state stmt d tables m0.engine m0.store m1.engine m1.store) (Meant state stmt owed (asked_of m0) d tables outcome m0.engine m1.engine m1.store)
              → by_fault failed (m1.owed ≡ []) (Owes m0 m1 stmt d tables) → RestsLast ending
          by_failed true fault kept none =
              let past = rests_then outcome done (CutAfter _) kept.seen in
              let same = none_behind outcome done tables none in
              record {
                more = false;
                unanswered = λ is. absurd (cc is);
                mark = past.mark;
                is = past.is;
                resting = subst (λ (ts : Tables). RestsAlike secret past.mark m1.store.kept ts) same (rests_now secret past.mark _ (public_of m1.engine) m1.store.kept past.on);
              }
          by_failed false own meant owes =
              let past = rests_then outcome done Alone meant.seen in
              record {
                more = true;
                unanswered = λ is. inl ends;
                mark = past.mark;
                is = past.is;
                resting = subst (λ (ts : Tables). RestsAlike secret past.mark m1.store.kept ts) owes.same (rests_now secret past.mark _ (public_of m1.engine) m1.store.kept past.on);
              }

      -- it was stopped
      module _ (run : RunStop) (ends : ending ≡ Ran (Err (session_stop run))) (does : Does state m0 m1 stmt (Err run)) where
        last_same : m1.keeper.held ≡ Some rests.mark → RestsLast ending
        last_same is = record {
          more = false;
          unanswered = λ more. absurd (cc more);
          mark = rests.mark;
          is = is;
          resting = rests_now secret rests.mark tables p m1.store.kept (still (does.ran.kept old.saves tt));
        }

        last_kept : m1.keeper ≡ m0.keeper → RestsLast ending
        last_kept same = last_same (ap (λ (k : KeeperState). k.held) same ∙ rests.is)

        last_new : (was : WasSaved state stmt owed (Err run) m0.engine m0.store m1.engine m1.store m0.keeper m1.keeper) → HoldsSaved state was.engine was.store m1.store m1.keeper → (r : RunStop) → run ≡ r
            → SavingCause r was.engine was.store m1.store m0.keeper m1.keeper → RestsLast ending
        last_new was holds StoreFault is cause = last_kept cause.1
        last_new was holds NoMemory is cause = last_kept cause.2
        last_new was holds KeeperFault is cause = record {
          more = true;
          unanswered = λ more. inr (ends ∙ ap (λ (r : RunStop). Ran (Err (session_stop r))) is);
          mark = its_mark (Err run) was holds;
          is = holds.is;
          resting = rests_now secret (its_mark (Err run) was holds) all_behind (saved_public (public_of was.engine)) m1.store.kept (rests_new (Err run) was holds);
        }
        last_new was holds other is cause = absurd cause

        pub last_stopped : RestsLast ending
        last_stopped = elim does.keeper [
          | inl not ↦ last_kept not.0
          | inr was ↦ elim (was.stays rests.mark rests.is) [
            | inl same ↦ last_same same
            | inr holds ↦ last_new was holds run refl was.answered
          ]
        ]
