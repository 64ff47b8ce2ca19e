-- What one statement does to the mark that is held, and to what rests for it.
use Rattle.ob_shell.proofs.Words.{Agrees, ap, AreByRegion, AreFlat, arith, Base, batch_most, Bool, Cut, Does, Draws, early_refusal, End, Engine, engine_keys, engine_start, Err, false, headings, held_headings, How, if◌then◌else◌, inl, inr, is_fault, is_joined, is_late, is_some, is_store_fault, IsRead, IsTrue, KeeperState, KeptRegion, KeySet, limits_of, List, Machine, Mark, None, Ok, Option, Outcome, pair_of, Public, public_of, refl, Refusal, Refused, Represents, RestsAlike, RestsOn, Result, RevState, RunStop, Seen, seen_or_cut, Session, Skeleton, skeleton, Some, Start, statements_of, Static, Stmt, StoreState, subst, sym, Table, Tables, true, Whole, world_of, ℕ, ◌&&◌, ◌<◌, ◌∙◌, ◌≡◌, ◌≤◌, ◌⊎◌}
use Rattle.ob_base.specs.Stored.{AreApart}
use Rattle.ob_base.specs.declared.refusal.Refusal.TheVariants as Refusals
use Rattle.ob_base.specs.declared.skeleton.Skeleton.TheVariants as Skeletons
use Rattle.ob_exec.specs.Ran.{WasSaved, is_saved_behind}
use Rattle.ob_exec.specs.Saving.{HoldsSaved}
use Rattle.ob_headline.specs.SavedHeadline.{SavesAs}
use Rattle.ob_mean.proofs.FlatLemmas.{seen_is, settle_is}
use Rattle.ob_mean.proofs.VerdictLemmas.{refused_early}
use Rattle.ob_mean.specs.Replay.{Alone, CutAfter, CutWith, With, seen_now, settle_or_cut}
use Rattle.ob_mean.specs.Settle.{settle, settled}
use Rattle.ob_mean.specs.Step.{followed}
use Rattle.ob_mean.specs.Verdict.{ended as seen_to, refusal, seen_started}
use Rattle.ob_reopen.proofs.ByNameAlike.{named_alike}
use Rattle.ob_reopen.specs.Closings.{saved_mark}
use Rattle.ob_reopen.specs.Resting.{by_name}
use Rattle.ob_script.specs.Saved.{saved_public}
use Rattle.ob_script.specs.Script.{changes_tables}
use Rattle.ob_script.specs.Tables.{tables_after, tables_then}
use Rattle.ob_seal.specs.Sealed.{AreOfSecret, check_of}
use Rattle.ob_seal.specs.declared.pairs.Pair.{Pair}
use Rattle.ob_shell.specs.Steps.{StaysAs}
use Rattle.ob_sql.specs.declared.stmt.Stmt.TheVariants.{Create, Insert, Update, Delete, Drop as DropTable, SelectRows as RowsStmt, SelectTotals as TotalsStmt}
use Rattle.ob_tables.proofs.NamesApart.{named_apart}
use Rattle.ob_tables.proofs.TableLemmas.{region_below}
use Rattle.ob_tables.specs.Closing.{next_closing}
use Rattle.ob_tables.specs.Engines.{IsTableRegion}
use Rattle.ob_tables.specs.Refusals.{refused_end}
use Rattle.ob_tables.specs.Running.{outcome_end}
use Rattle.ob_verdict.proofs.AlikeTables.{alike_turned}

-- ---- how an answer ends
refused_whole : (r : Refusal) (n : ℕ) → refused_end r n ≡ Whole → is_store_fault r ≡ false
refused_whole Refusals.StoreFault n is = absurd (cc is)
refused_whole other n is = refl

pub whole_own : (o : Outcome) (n : ℕ) → outcome_end o n ≡ Whole → is_fault o ≡ false
whole_own (Refused r) n is = refused_whole r n is
whole_own other n is = refl

-- one that the store didn't fail is cut off nowhere
refused_uncut : (r : Refusal) (n k : ℕ) → is_store_fault r ≡ false → refused_end r n ≡ Cut k → ⊥
refused_uncut Refusals.StoreFault n k own is = cc own
refused_uncut other n k own is = cc is

pub uncut : (o : Outcome) (n k : ℕ) → is_fault o ≡ false → outcome_end o n ≡ Cut k → ⊥
uncut (Refused r) n k own is = refused_uncut r n k own is
uncut other n k own is = cc is

-- ---- a statement after which tables aren't saved leaves them
followed_same : (o : Option Refusal) (ts : Tables) → followed o ts ts ≡ ts
followed_same None ts = refl
followed_same (Some r) ts = refl

-- a change that isn't refused comes to its end, and then they are saved
module _ (p : Public) (m : ℕ) (d : Draws) (ts : Tables) (saves : p.save ≡ true) where
  not_whole : (stmt : Stmt) {P : Type 0} → changes_tables (skeleton stmt) ≡ true → is_saved_behind p (skeleton stmt) Whole ≡ false → P
  not_whole stmt changes not = let both = ap (λ (b : Bool). b && p.save) changes in absurd (cc (both, saves, not))

  started_same : (stmt : Stmt) → is_saved_behind p (skeleton stmt) (seen_started p ts stmt).end ≡ false → (o : Option Refusal) → followed o (settled d p ts stmt) ts ≡ ts
  started_same (Create table columns capacity shape) not o = not_whole (Create table columns capacity shape) refl not
  started_same (Insert table columns values) not o = not_whole (Insert table columns values) refl not
  started_same (Update table sets search) not o = not_whole (Update table sets search) refl not
  started_same (Delete table search) not o = not_whole (Delete table search) refl not
  started_same (DropTable table) not o = not_whole (DropTable table) refl not
  started_same (RowsStmt q) not o = followed_same o ts
  started_same (TotalsStmt q) not o = followed_same o ts

  settles_same : (stmt : Stmt) → AreFlat (headings ts) → is_saved_behind p (skeleton stmt) (seen_now (record { public = p; tables = ts; asked = m; draws = d }) stmt).end ≡ false → settle d p m ts stmt ≡ ts
  settles_same stmt flat not = settle_is p ts stmt flat d m ∙ by_early (early_refusal (is_late m) (limits_of p) (headings ts) stmt) refl
    where
      by_early : (o : Option Refusal) → early_refusal (is_late m) (limits_of p) (headings ts) stmt ≡ o → followed (refusal p m ts stmt) (settled d p ts stmt) ts ≡ ts
      by_early (Some r) early = ap (λ (o : Option Refusal). followed o (settled d p ts stmt) ts) (refused_early p m ts stmt r early)
      by_early None early =
          let is : seen_now (record { public = p; tables = ts; asked = m; draws = d }) stmt ≡ seen_started p ts stmt =
          seen_is p ts stmt flat d m ∙ ap (λ (o : Option Refusal). if is_some o then seen_to Static else seen_started p ts stmt) early in
          started_same stmt (subst (λ (x : Seen). is_saved_behind p (skeleton stmt) x.end ≡ false) is not) (refusal p m ts stmt)

-- whether or not the store cut it off, where it was served by itself
pub unsaved_same : (o : How) (s : Session) (stmt : Stmt) → s.public.save ≡ true → AreFlat (headings s.tables) → is_joined (seen_or_cut o s stmt).end ≡ false → is_saved_behind s.public (skeleton stmt) (seen_or_cut o s stmt).end ≡ false
    → settle_or_cut o s stmt ≡ s.tables
unsaved_same Alone s stmt saves flat apart not = settles_same s.public s.asked s.draws s.tables saves stmt flat not
unsaved_same (CutAfter n) s stmt saves flat apart not = refl
unsaved_same With s stmt saves flat apart not = absurd (cc apart)
unsaved_same CutWith s stmt saves flat apart not = refl

-- so does what is public
after_same : (p : Public) (sk : Skeleton) → p.save ≡ true → is_saved_behind p sk Whole ≡ false → tables_after p sk ≡ p.tables
after_same p (Skeletons.Rows source cs) saves not = refl
after_same p (Skeletons.Groups table cs key) saves not = refl
after_same p other saves not = absurd (cc (saves, not))

pub then_same : (p : Public) (sk : Skeleton) (end : End) → p.save ≡ true → is_saved_behind p sk end ≡ false → tables_then p sk end ≡ p.tables
then_same p sk Whole saves not = after_same p sk saves not
then_same p sk other saves not = refl

-- ---- what rests while nothing that is read of it changes
module _ (secret : List ℕ) (mark : Mark) (tables : Tables) where
  pub rests_now : (p : Public) (kept : ℕ → Option KeptRegion) → RestsOn secret mark p kept tables → RestsAlike secret mark kept tables
  rests_now p kept on = on.rests kept (λ q read. refl)

  pub rests_stay : (p : Public) (old new : ℕ → Option KeptRegion) (on : RestsOn secret mark p old tables) → ((q : ℕ) → IsRead on.region p q → new q ≡ old q) → RestsOn secret mark p new tables
  rests_stay p old new on same = record { region = on.region; below = on.below; rests = λ now at. on.rests now (λ q read. at q read ∙ same q read) }

  read_as : (p r : Public) (region q : ℕ) → r.tables ≡ p.tables → IsRead region p q → IsRead region r q
  read_as p r region q same (inl own) = inl own
  read_as p r region q same (inr of) = inr (subst (λ (ts : List Table). IsTableRegion ts q) (sym same) of)

  -- what is public goes on, of the same tables
  pub rests_past : (p r : Public) (kept : ℕ → Option KeptRegion) → r.tables ≡ p.tables → p.next_region ≤ r.next_region → RestsOn secret mark p kept tables → RestsOn secret mark r kept tables
  rests_past p r kept same more on = record {
    region = on.region;
    below = let below = on.below in omega (arith, below, more);
    rests = λ now at. on.rests now (λ q read. at q (read_as p r on.region q same read));
  }

-- of an engine all that is read lies below its next region
pub read_below : {R : Type 0} (state : R → RevState) (e : Engine R) (s : StoreState) (region q : ℕ) → Agrees state e s → region < (public_of e).next_region → IsRead region (public_of e) q → q < (public_of e).next_region
read_below state e s region q agrees below (inl own) = omega (arith, below, own)
read_below state e s region q agrees below (inr of) =
    let under = region_below (public_of e).pack of.place (public_of e).tables of.table (world_of state e s) agrees.ready agrees.tables of.get in
    let here = of.region in
    let next_is = agrees.next in
    omega (arith, under, here, next_is)

-- no two of its tables have one name
apart_held : {R : Type 0} (state : R → RevState) (e : Engine R) (s : StoreState) → Agrees state e s → (tables : Tables) → Represents state e s tables → AreApart (headings tables)
apart_held state e s agrees tables held = subst AreApart (sym (held_headings _ _ _ tables _ held.held)) (named_apart (public_of e).tables agrees.tables.names)

-- ---- the mark of a closing that was written, and what rests for it
module _ {R : Type 0} (state : R → RevState) (e : Engine R) (s t : StoreState) (keeper : KeeperState) (holds : HoldsSaved state e s t keeper) (agrees : Agrees state e s) where
  abbrev pub own_mark : Mark
  own_mark = saved_mark (next_closing e s) holds.salt (pair_of (engine_keys e) (next_closing e s).region).check

  -- its check value is that of the secret for its salt
  checked : (secret : List ℕ) → AreOfSecret secret (engine_keys e) → (pair_of (engine_keys e) (next_closing e s).region).check ≡ check_of secret (Some holds.salt)
  checked secret of = ap (λ (p : Pair). p.check) (of (next_closing e s).region) ∙ ap (check_of secret) holds.of

  pub saves_as : (secret salt : List ℕ) (base : Base) (keys : KeySet) → AreOfSecret secret keys → engine_keys e ≡ keys → engine_start e ≡ base.start → (public_of e).pack ≡ base.public.pack
      → ((q : ℕ) → base.start.region < q → (pair_of keys q).salt ≡ Some salt) → SavesAs secret salt base own_mark
  saves_as secret salt base keys of keyed start pack salted =
      let next_is = agrees.next in
      let tied = agrees.ready.tied.next in
      let from = ap (λ (x : Start). x.region) start in
      let since = ap (λ (x : Start). x.writes) start in
      let above : base.start.region < (public_of e).next_region = omega (arith, next_is, tied, from) in
      let ours = salted (public_of e).next_region above in
      let its : (pair_of keys (public_of e).next_region).salt ≡ Some holds.salt = ap (λ (k : KeySet). (pair_of k (public_of e).next_region).salt) (sym keyed) ∙ holds.of in
      let same : holds.salt ≡ salt = cc (its, ours) in
      record {
        closing = next_closing e s;
        is = ap (saved_mark (next_closing e s) holds.salt) (checked secret (subst (AreOfSecret secret) (sym keyed) of)) ∙ ap (λ (x : List ℕ). saved_mark (next_closing e s) x (check_of secret (Some x))) same;
        pack = pack;
        region = above;
        number = omega (arith, since);
      }

  pub rests_saved : (secret : List ℕ) → AreByRegion secret (engine_keys e) → IsTrue s.tells → (tables : Tables) → Represents state e s tables
      → RestsOn secret own_mark (saved_public (public_of e)) t.kept tables
  rests_saved secret of tells tables held = record {
    region = (public_of e).next_region;
    below = omega (arith);
    rests = λ now at. record {
      resting = by_name tables;
      rests = (checked secret of.of, record { keys = engine_keys e; of = of.of; own = sym holds.of; rests = (holds.rests tells tables held).rests now at; ones = λ q needed. of.ones q });
      alike = alike_turned tables (by_name tables) (named_alike tables (apart_held state e s agrees tables held));
    };
  }

-- ---- a machine whose tables are saved
module _ {R : Type 0} (state : R → RevState) (salt : List ℕ) (base : Base) (keys : KeySet) where
  pub record Saves (m : Machine R) : Type 0 where
    pub agrees : Agrees state m.engine m.store
    pub saves : (public_of m.engine).save ≡ true
    pub pack : (public_of m.engine).pack ≡ base.public.pack
    pub most : batch_most (public_of m.engine) ≡ batch_most base.public
    pub start : engine_start m.engine ≡ base.start
    pub keyed : engine_keys m.engine ≡ keys

  pub saves_on : (m0 m1 : Machine R) (stmt : Stmt) (outcome : Outcome) → Does state m0 m1 stmt (Ok outcome) → Saves m0 → Saves m1
  saves_on m0 m1 stmt outcome does old = record {
    agrees = does.ran.goes_on.agrees;
    saves = ap (λ (p : Public). p.save) does.ran.goes_on.public ∙ old.saves;
    pack = ap (λ (p : Public). p.pack) does.ran.goes_on.public ∙ old.pack;
    most = ap batch_most does.ran.goes_on.public ∙ old.most;
    start = does.ran.start ∙ old.start;
    keyed = does.ran.keys ∙ old.keyed;
  }

  -- where nothing was asked
  pub saves_still : (m0 m1 : Machine R) → StaysAs m0 m1 → Saves m0 → Saves m1
  saves_still m0 m1 same old = subst Saves (sym same) (record { agrees = old.agrees; saves = old.saves; pack = old.pack; most = old.most; start = old.start; keyed = old.keyed })

-- and which mark its keeper holds
module _ {R : Type 0} (state : R → RevState) (secret salt : List ℕ) (base : Base) (keys : KeySet) where
  -- the mark that is held is this one, or one of the run's own
  pub record HoldsMark (held : Mark) (m : Machine R) : Type 0 where
    pub mark : Mark
    pub is : m.keeper.held ≡ Some mark
    pub which : (mark ≡ held) ⊎ SavesAs secret salt base mark

  pub mark_still : (held : Mark) (m0 m1 : Machine R) → StaysAs m0 m1 → HoldsMark held m0 → HoldsMark held m1
  mark_still held m0 m1 same holds = record { mark = holds.mark; is = ap (λ (m : Machine R). m.keeper.held) same ∙ holds.is; which = holds.which }

  module _ (of : AreByRegion secret keys) (held : Mark) (salted : (q : ℕ) → base.start.region < q → (pair_of keys q).salt ≡ Some salt) (m0 m1 : Machine R) (stmt : Stmt) (old : Saves state salt base keys m0) where
    mark_same : m1.keeper ≡ m0.keeper → HoldsMark held m0 → HoldsMark held m1
    mark_same same holds = record { mark = holds.mark; is = ap (λ (k : KeeperState). k.held) same ∙ holds.is; which = holds.which }

    -- after what was saved
    mark_new : (result : Result Outcome RunStop) (was : WasSaved state stmt (statements_of m1.owed) result m0.engine m0.store m1.engine m1.store m0.keeper m1.keeper) → HoldsSaved state was.engine was.store m1.store m1.keeper → HoldsMark held m1
    mark_new result was holds = record {
      mark = own_mark state was.engine was.store m1.store m1.keeper holds was.ran.goes_on.agrees;
      is = holds.is;
      which = inr (saves_as state was.engine was.store m1.store m1.keeper holds was.ran.goes_on.agrees secret salt base keys of.of (was.ran.keys ∙ old.keyed) (was.ran.start ∙ old.start)
          (ap (λ (p : Public). p.pack) was.ran.goes_on.public ∙ old.pack) salted);
    }

    pub mark_answered : (outcome : Outcome) → Does state m0 m1 stmt (Ok outcome) → HoldsMark held m0 → HoldsMark held m1
    mark_answered outcome does holds = elim does.keeper [
      | inl not ↦ mark_same not.0 holds
      | inr was ↦ mark_new (Ok outcome) was (was.held holds.mark holds.is)
    ]

    pub mark_stopped : (run : RunStop) → Does state m0 m1 stmt (Err run) → HoldsMark held m0 → HoldsMark held m1
    mark_stopped run does holds = elim does.keeper [
      | inl not ↦ mark_same not.0 holds
      | inr was ↦ elim (was.stays holds.mark holds.is) [
        | inl same ↦ record { mark = holds.mark; is = same; which = holds.which }
        | inr new ↦ mark_new (Err run) was new
      ]
    ]
