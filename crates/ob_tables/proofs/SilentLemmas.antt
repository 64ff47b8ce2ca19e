-- A statement that emits nothing and of which nothing is counted, by how it ended.
use Rattle.ob_tables.proofs.Words.{Access, accessed, Agrees, answer_of, ap, append-nil, AreDraws, AreHeld, AreInPlace, arith, Bool, Columns, count_of, Cut, Did, drawn_by, DrawPlace, Draws, End, Engine, Err, false, Global, HasNoRows, Index, inl, inr, is_access, is_stop, IsSilent, KeepsSealed, length, List, make_at, MakesFlat, Means, None, Ok, one, OpErr, others_of, Outcome, outcome_of, PassCut, Public, RanStatement, ReadsTrue, refl, refusal_now, Result, RevState, RoomState, RunStop, Seals, seen, selects_rows, ServesSilently, settle, settle_all, skeleton, slice_get, Some, Stmt, StoreState, subst, sym, Tables, true, UsesRoom, Vault, Vec, verdict, went_rests, Whole, whole_run, World, world_of, ℕ, [], ◌++◌, ◌-◌, ◌∙◌, ◌∷◌, ◌≡◌}
use Rattle.ob_tables.specs.declared.stop.RunStop.TheVariants as Stops
use Rattle.ob_base.specs.declared.schema.Table.{Table}
use Rattle.ob_store.specs.Calls.{ChangesNothing}
use Rattle.ob_vault.specs.Places.{at}
use Rattle.ob_flat.specs.declared.fault.OpErr.TheVariants as OpErrs
use Rattle.ob_flat.specs.Flats.{Accepts}
use Rattle.ob_flat.proofs.Runs.{pass_after}
use Rattle.ob_mean.specs.Verdict.{ended as seen_to}
use Rattle.ob_verdict.proofs.InPlaceProof.{keeps_in_place}
use Rattle.ob_verdict.proofs.SeenProof.{shows_kind_alone}
use Rattle.ob_tables.proofs.BegunLemmas.{begun_plain}
use Rattle.ob_tables.proofs.HeldLemmas.{held_kept, held_plain}
use Rattle.ob_tables.proofs.PlainLemmas.{none_drawn, none_full, none_stops}
use Rattle.ob_tables.proofs.RunLemmas.{IsAnswered, engine_after, engine_left, ran_cut, ran_unasked, only_memory}
use Rattle.ob_tables.proofs.SealLemmas.{keeps_pass, keeps_rests}
use Rattle.ob_tables.proofs.TableLemmas.{beside_below, region_below, tables_kept}
use Rattle.ob_tables.proofs.ToldLemmas.{IsFault, cut_seen, early_held, told_whole}

-- the same, of an equal answer and an equal engine
pub serves_as : {R : Type 0} {owed : List Stmt} (state : R → RevState) (stmt : Stmt) (old : Engine R) (s t : StoreState) (r q : Result Outcome RunStop) (new same : Engine R)
    → r ≡ q → new ≡ same → ServesSilently state stmt owed q old s same t → ServesSilently state stmt owed r old s new t
serves_as {R} {owed} state stmt old s t r q new same answer is serves =
    subst (λ (e : Engine R). ServesSilently state stmt owed r old s e t) (sym is)
    (subst (λ (a : Result Outcome RunStop). ServesSilently state stmt owed a old s same t) (sym answer) serves)

-- tables in place stay so after some statements
pub keeps_all_in_place : (d : Draws) (p : Public) (m : ℕ) (stmts : List Stmt) (tables : Tables) → AreInPlace p.stash tables → AreInPlace p.stash (settle_all d p m stmts tables)
keeps_all_in_place d p m [] tables in_place = in_place
keeps_all_in_place d p m (stmt ∷ stmts) tables in_place = keeps_all_in_place d p m stmts (settle d p m tables stmt) (keeps_in_place d p m tables stmt in_place)

-- ---- a statement that accesses no index
module _ {R : Type 0} (state : R → RevState) (stmt : Stmt) (old : Engine R) (s : StoreState) (agrees : Agrees state old s)
    (now : refusal_now old.public (count_of old s) stmt ≡ None) (plain : selects_rows stmt ≡ false)
    (none : is_access old.public (skeleton stmt) ≡ false) where
  unread : (tables : Tables) (w : World) → AreHeld old.public.pack old.indexes.items old.public.tables tables w → accessed tables stmt ≡ None
  unread tables w held = held_plain old.public old.indexes.items tables w stmt held none

  seen_whole : (tables : Tables) (d : Draws) (w : World) → AreHeld old.public.pack old.indexes.items old.public.tables tables w → seen d old.public (count_of old s) tables stmt ≡ seen_to Whole
  seen_whole tables d w held =
      shows_kind_alone d old.public (count_of old s) tables stmt (early_held old.public (count_of old s) stmt tables old.indexes.items w None held now) (unread tables w held) plain

-- with which others are served
module _ {R : Type 0} {owed : List Stmt} (state : R → RevState) (stmt : Stmt) (old : Engine R) (s : StoreState) (agrees : Agrees state old s)
    (now : refusal_now old.public (count_of old s) stmt ≡ None) (plain : selects_rows stmt ≡ false)
    (none : is_access old.public (skeleton stmt) ≡ false) where
  -- nothing was asked, for want of memory, whatever was drawn
  pub unasked_left : (s1 : StoreState) (indexes : Vec Index Global) (draws : DrawPlace) (ts : List Table) → ChangesNothing s s1
      → ServesSilently state stmt owed (Err Stops.NoMemory) old s (engine_left old indexes draws old.vault old.room ts (seen_to (Cut 0)) true) s1
  unasked_left s1 indexes draws ts rests =
      let same : length s1.asked ≡ length s.asked = ap length rests.asked in
      record {
        ran = ran_unasked state (skeleton stmt) old s s1 indexes draws ts agrees rests;
        started = λ is. absurd (cc is);
        uncounted = λ is. absurd (cc is);
        plain = refl;
        silent = tt;
        memory = λ is. record {
          done = [];
          rest = whole_run old.public (skeleton stmt) (seen_to (Cut 0));
          split = refl;
          asked = rests.asked ∙ sym (append-nil s.asked);
          place = inl (inl refl);
        };
        seals = keeps_rests state old s s1 rests (engine_left old indexes draws old.vault old.room ts (seen_to (Cut 0)) true) refl;
        means = record {
          told = λ tables d of reads. tt;
          room = λ tables d of reads. tt;
          honest = λ tables reads. refl;
          held = λ tables d of reads. cut_seen false old.public (skeleton stmt) 0 _ _ (seen_whole state stmt old s agrees now plain none tables d _ reads.held.held) (omega (arith, same));
          full = λ tables d of reads. none_stops old.public tables stmt (unread state stmt old s agrees now plain none tables _ reads.held.held) d (count_of old s) _ Stops.NoMemory tt;
          begun = λ tables d of reads lie told. absurd (cc (reads.nolie, rests.lie, told));
        };
      }

  -- all of it was asked
  pub finished_left : (indexes : Vec Index Global) (draws : DrawPlace) (v : Vault R) (room : RoomState) (t : StoreState) (ts : List Table) (outcome : Outcome) → IsAnswered outcome → HasNoRows outcome
      → RanStatement state (skeleton stmt) (Ok outcome) old s (engine_left old indexes draws v room ts (seen_to Whole) old.ended) t
      → KeepsSealed state old s (engine_left old indexes draws v room ts (seen_to Whole) old.ended) t
      → ((tables : Tables) (d : Draws) → AreDraws old d → ReadsTrue state old s t tables
      → (outcome ≡ outcome_of stmt (verdict old.public (count_of old s) tables stmt)) × AreHeld old.public.pack indexes.items ts (settle_all d old.public (count_of old s) (stmt ∷ owed) tables) (at state v t))
      → ServesSilently state stmt owed (Ok outcome) old s (engine_left old indexes draws v room ts (seen_to Whole) old.ended) t
  finished_left indexes draws v room t ts outcome answered silent ran seals meant = record {
    ran = ran;
    started = λ is. absurd (cc is);
    uncounted = λ is. absurd (cc is);
    plain = refl;
    silent = silent;
    memory = λ is. absurd (cc is);
    seals = seals;
    means = record {
      told = λ tables d of reads. told_whole outcome _ _ answered (record {
        answer = (meant tables d of reads).0;
        seen = sym (seen_whole state stmt old s agrees now plain none tables d _ reads.held.held);
        held = record { held = (meant tables d of reads).1; in_place = keeps_all_in_place d old.public (count_of old s) (stmt ∷ owed) tables reads.held.in_place };
      });
      room = λ tables d of reads. none_full old.public tables stmt (unread state stmt old s agrees now plain none tables _ reads.held.held) d (count_of old s);
      honest = λ tables reads. tt;
      held = λ tables d of reads. tt;
      full = λ tables d of reads. tt;
      begun = λ tables d of reads. begun_plain state stmt (Ok outcome) old s (engine_left old indexes draws v room ts (seen_to Whole) old.ended) t tables d plain refl ran (seen_whole state stmt old s agrees now plain none tables d _ reads.held.held) reads.nolie;
    };
  }

  -- a pass gave up
  module _ (indexes : Vec Index Global) (draws : DrawPlace) (v : Vault R) (room : RoomState) (t : StoreState) where
    pub means_left : (e : OpErr) (n : ℕ) → n ≡ length t.asked - length s.asked → ((tables : Tables) → ReadsTrue state old s t tables → IsFault e)
        → ((tables : Tables) → AreHeld old.public.pack old.indexes.items old.public.tables tables (world_of state old s) → AreHeld old.public.pack indexes.items old.public.tables tables (at state v t))
        → RanStatement state (skeleton stmt) (answer_of e) old s (engine_left old indexes draws v room old.public.tables (seen_to (Cut n)) (is_stop (answer_of e))) t
        → Means state stmt owed (answer_of e) old s (engine_left old indexes draws v room old.public.tables (seen_to (Cut n)) (is_stop (answer_of e))) t
    means_left OpErrs.Failed n count fault kept ran = record {
      told = λ tables d of reads. record {
        unindexed = unread state stmt old s agrees now plain none tables _ reads.held.held;
        seen = cut_seen true old.public (skeleton stmt) n _ _ (seen_whole state stmt old s agrees now plain none tables d _ reads.held.held) count;
        held = record { held = kept tables reads.held.held; in_place = reads.held.in_place };
      };
      room = λ tables d of reads. none_full old.public tables stmt (unread state stmt old s agrees now plain none tables _ reads.held.held) d (count_of old s);
      honest = λ tables reads. tt;
      held = λ tables d of reads. tt;
      full = λ tables d of reads. tt;
      begun = λ tables d of reads. begun_plain state stmt (answer_of OpErrs.Failed) old s _ t tables d plain refl ran (seen_whole state stmt old s agrees now plain none tables d _ reads.held.held) reads.nolie;
    }
    means_left (OpErrs.Tampered q x) n count fault kept ran = record {
      told = λ tables d of reads. tt;
      room = λ tables d of reads. tt;
      honest = λ tables reads. absurd (fault tables reads);
      held = λ tables d of reads. cut_seen true old.public (skeleton stmt) n _ _ (seen_whole state stmt old s agrees now plain none tables d _ reads.held.held) count;
      full = λ tables d of reads. none_stops old.public tables stmt (unread state stmt old s agrees now plain none tables _ reads.held.held) d (count_of old s) _ (Stops.Tampered q x) tt;
      begun = λ tables d of reads. begun_plain state stmt (answer_of (OpErrs.Tampered q x)) old s _ t tables d plain refl ran (seen_whole state stmt old s agrees now plain none tables d _ reads.held.held) reads.nolie;
    }
    means_left OpErrs.Sink n count fault kept ran = record {
      told = λ tables d of reads. tt;
      room = λ tables d of reads. tt;
      honest = λ tables reads. refl;
      held = λ tables d of reads. cut_seen false old.public (skeleton stmt) n _ _ (seen_whole state stmt old s agrees now plain none tables d _ reads.held.held) count;
      full = λ tables d of reads. none_stops old.public tables stmt (unread state stmt old s agrees now plain none tables _ reads.held.held) d (count_of old s) _ Stops.SinkFault tt;
      begun = λ tables d of reads. begun_plain state stmt (answer_of OpErrs.Sink) old s _ t tables d plain refl ran (seen_whole state stmt old s agrees now plain none tables d _ reads.held.held) reads.nolie;
    }
    means_left OpErrs.NoMemory n count fault kept ran = record {
      told = λ tables d of reads. tt;
      room = λ tables d of reads. tt;
      honest = λ tables reads. refl;
      held = λ tables d of reads. cut_seen false old.public (skeleton stmt) n _ _ (seen_whole state stmt old s agrees now plain none tables d _ reads.held.held) count;
      full = λ tables d of reads. none_stops old.public tables stmt (unread state stmt old s agrees now plain none tables _ reads.held.held) d (count_of old s) _ Stops.NoMemory tt;
      begun = λ tables d of reads. begun_plain state stmt (answer_of OpErrs.NoMemory) old s _ t tables d plain refl ran (seen_whole state stmt old s agrees now plain none tables d _ reads.held.held) reads.nolie;
    }

-- ---- one that draws nothing either
module _ {R : Type 0} {owed : List Stmt} (state : R → RevState) (stmt : Stmt) (old : Engine R) (s : StoreState) (agrees : Agrees state old s)
    (now : refusal_now old.public (count_of old s) stmt ≡ None) (plain : selects_rows stmt ≡ false)
    (none : is_access old.public (skeleton stmt) ≡ false) (made : MakesFlat (skeleton stmt)) where
  -- nothing was asked, for want of memory
  pub unasked : (s1 : StoreState) (ts : List Table) → ChangesNothing s s1 → ServesSilently state stmt owed (Err Stops.NoMemory) old s (engine_after old old.vault old.room ts (Cut 0) true) s1
  unasked s1 ts rests = unasked_left state stmt old s agrees now plain none s1 old.indexes old.draws ts rests

  -- with the indexes and the draws that there were
  pub finished : (v : Vault R) (room : RoomState) (t : StoreState) (ts : List Table) (outcome : Outcome) → IsAnswered outcome → HasNoRows outcome
      → RanStatement state (skeleton stmt) (Ok outcome) old s (engine_after old v room ts Whole old.ended) t
      → KeepsSealed state old s (engine_after old v room ts Whole old.ended) t
      → ((tables : Tables) (d : Draws) → ReadsTrue state old s t tables
      → (outcome ≡ outcome_of stmt (verdict old.public (count_of old s) tables stmt)) × AreHeld old.public.pack old.indexes.items ts (settle_all d old.public (count_of old s) (stmt ∷ owed) tables) (at state v t))
      → ServesSilently state stmt owed (Ok outcome) old s (engine_after old v room ts Whole old.ended) t
  finished v room t ts outcome answered silent ran seals meant =
      finished_left state stmt old s agrees now plain none old.indexes old.draws v room t ts outcome answered silent ran seals (λ tables d of reads. meant tables d reads)

  module _ (s1 : StoreState) (v : Vault R) (room : RoomState) (t : StoreState) (rests : ChangesNothing s s1) (uses : UsesRoom old.room room) where
    -- a pass that makes a region first gave up
    pub cut_off : (x more : List Access) (blocks size n : ℕ) (e : OpErr) → ((end : End) → whole_run old.public (skeleton stmt) (seen_to end) ≡ x)
        → x ≡ make_at old.vault.next blocks size ++ more → PassCut e x (one old.vault.next) (at state old.vault s1) (at state v t) → n ≡ length t.asked - length s.asked
        → ((state v.revs).live old.vault.next ≡ None) → (e ≡ OpErrs.NoMemory → Did (make_at old.vault.next blocks size) s1 t) → IsSilent (answer_of e)
        → ((tables : Tables) → ReadsTrue state old s t tables → IsFault e)
        → ((good : ℕ → List ℕ → Bool) → ((columns : Columns) (region : ℕ) → Accepts good old.room.pack columns region) → Seals good (at state old.vault s1) (at state v t))
        → ServesSilently state stmt owed (answer_of e) old s (engine_after old v room old.public.tables (Cut n) (is_stop (answer_of e))) t
    cut_off x more blocks size n e script_is parts cut count gone memory silent fault seals =
        let all = pass_after (one old.vault.next) _ _ _ e [] x (went_rests _ s s1 rests (one old.vault.next) agrees.ready) cut in
        let apart : (i : ℕ) (u : Table) → slice_get old.public.tables i ≡ Some u → one old.vault.next u.region → ⊥ =
        λ i u is here. let less = region_below old.public.pack i old.public.tables u _ agrees.ready agrees.tables is in omega (arith, less, here) in
        let others = others_of old.closing old.indexes.items in
        let off : (q : ℕ) → others q → one old.vault.next q → ⊥ =
        λ q is here. let less = beside_below old.public.pack old.public.tables others q _ agrees.ready agrees.tables is in omega (arith, less, here) in
        let ran = ran_cut state (skeleton stmt) old s v room t agrees uses (none_drawn old.public (skeleton stmt) none made) (one old.vault.next) n x e all (script_is (Cut n)) count
        (tables_kept (one old.vault.next) old.public.pack old.public.tables others old.indexes.items _ _ all.lasts apart off (λ q shape live here. absurd (cc (live, gone, here))) agrees.tables)
        (λ q below same. omega (arith, below, same)) in
        record {
          ran = ran;
          started = λ is. absurd (cc is);
          uncounted = λ is. absurd (cc is);
          plain = refl;
          silent = silent;
          memory = λ is.
              let made = make_at old.vault.next blocks size in
              record {
                done = made;
                rest = more;
                split = sym parts ∙ sym (script_is (Cut n));
                asked = (memory (only_memory e is)).asked ∙ ap (λ (y : List Access). y ++ made) rests.asked;
                place = inl (inr refl);
              };
          seals = keeps_pass state old s s1 rests agrees (engine_after old v room old.public.tables (Cut n) (is_stop (answer_of e))) t (at state v t) refl seals;
          means = means_left state stmt old s agrees now plain none old.indexes old.draws v room t e n count fault (λ tables held. held_kept (one old.vault.next) old.public.pack old.indexes.items old.public.tables tables _ _ all.lasts apart
              (λ k i get. off i.stash (agrees.tables.stand k i get).beside) held) ran;
        }
