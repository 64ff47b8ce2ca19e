-- The engine of a run whose tables are kept, and what a failed trace leaves.
use Rattle.ob_shell.proofs.Words.{Access, Agrees, ap, append-nil, AreDraws, arith, Bool, CloseErr, Closing, Config, count_of, drop, earlier, Engine, engine_keys, engine_start, Err, false, first_draws, first_public, fresh, has_refused, HasCause, headings_of, held_headings, high_of, indexes_of, inl, inr, is_err, IsFresh, IsReady, IsSteady, KeeperState, KeptEnded, KeptEnding, keys_of, KeySet, length, length-append, List, machine_of, Mark, nat_tests, no_flights, None, Ok, opened_from, Option, Outputs, Plain, Public, public_of, Ran, refl, Result, RevState, Rises, rows_of, Some, Start, Stop, StoreState, subst, sym, take, Tally, told_nothing, traced, true, world_of, ℕ, [], ◌++◌, ◌+◌, ◌<◌, ◌^◌, ◌∙◌, ◌∷◌, ◌≡◌, ◌≤◌}
use Rattle.std.specs.Prelude.{IsErr, ◌==◌}
use Rattle.ob_base.specs.Accesses.{read_at}
use Rattle.ob_base.specs.Lists.{each}
use Rattle.ob_tables.specs.Agreeing.{has_ended, replaced_of}
use Rattle.ob_tables.specs.Closing.{ClosesEngine, closing_script, next_closing}
use Rattle.ob_reopen.specs.Closed.{is_used_up}
use Rattle.ob_tables.specs.Reopening.{IsOpened, OpensEngine}
use Rattle.ob_reopen.specs.Reopened.{NotOpened, opened_start, opening_script}
use Rattle.ob_reopen.specs.Resting.{IsAtRest}
use Rattle.ob_headline.proofs.FlatLemmas.{opened_flat}
use Rattle.ob_headline.specs.Bases.{Opened, reopened}
use Rattle.ob_headline.specs.Keeping.{EndsWith, NotReopened, OpensClosing, opening_end}
use Rattle.ob_reopen.specs.Closings.{open_script, read_script}
use Rattle.ob_reopen.specs.Limits.{IsMarked}
use Rattle.ob_reopen.specs.declared.fault.OpenErr.{OpenErr}
use Rattle.ob_reopen.specs.declared.listed.Listed.{Listed}
use Rattle.ob_shell.proofs.StandLemmas.{none_asked, stands_first}
use Rattle.ob_shell.proofs.TraceLemmas.{since, until}
use Rattle.ob_shell.specs.Engaging.{ClosesRun, Engages, IsHushed}
use Rattle.ob_shell.specs.Standing.{StandsOn}
use Rattle.ob_store.proofs.Steps.{length-each}
use Rattle.ob_vault.specs.Resuming.{open_at}
use Rattle.ob_vault.specs.State.{from_nothing}
use Rattle.ob_vault.specs.Tied.{TagFits}

-- ---- a call that failed, and what it says of the count
pub hushed : {T E : Type 0} (r : Result T E) (quiet : Bool) (f0 f1 : ℕ) → quiet ≡ is_err r → HasCause f0 f1 r → IsHushed quiet f0 f1
hushed (Ok x) quiet f0 f1 is cause = record { rose = λ it. absurd (cc (is, it)); kept = λ it. cause.kept }
hushed (Err e) quiet f0 f1 is cause = record { rose = λ it. cause.failed; kept = λ it. absurd (cc (is, it)) }

pub cut_caused : {T E : Type 0} {w0 w1 : Option (List ℕ)} {bytes : List ℕ} (r : Result T E) (f0 f1 : ℕ) → HasCause f0 f1 r → Outputs w0 w1 (IsErr r) bytes → Outputs w0 w1 (Rises f0 f1) bytes
cut_caused r f0 f1 cause cut = record { grown = cut.grown; appends = cut.appends; prefix = cut.prefix; all = elim cut.all [ inl whole ↦ inl whole | inr failed ↦ inr (rose r cause failed) ] }
  where
    rose : {T E : Type 0} (r : Result T E) → HasCause f0 f1 r → IsErr r → Rises f0 f1
    rose (Ok x) cause failed = absurd (cc failed)
    rose (Err e) cause failed = cause.failed

-- ---- an engine whose tables aren't saved
pub ready_unsaved : {R : Type 0} (state : R → RevState) (Saves : Type 0) (e : Engine R) (s : StoreState) (k : KeeperState) → Agrees state e s → has_ended e ≡ false → replaced_of e ≡ None → (public_of e).save ≡ false
    → IsReady state Saves (machine_of e s k no_flights)
ready_unsaved state Saves e s k agrees lives settled unsaved = record {
  agrees = agrees;
  lives = lives;
  settled = settled;
  saves = record {
    saves = λ saves. absurd (cc (saves, unsaved));
    salted = λ saves q from. absurd (cc (saves, unsaved));
    listed = λ saves. absurd (cc (saves, unsaved));
  };
}

-- ---- an engine that was just started
pub engages_first : {R : Type 0} (state : R → RevState) (config : Config) (keys : KeySet) (e : Engine R) (s : StoreState) → Agrees state e s → public_of e ≡ first_public config → engine_keys e ≡ keys → AreDraws e (first_draws keys)
    → engine_start e ≡ from_nothing → opened_from e ≡ None → replaced_of e ≡ None → has_ended e ≡ false → high_of e ≡ 0 → rows_of e ≡ config.buffer → IsFresh s → IsSteady s → config.save ≡ false → Engages state (fresh (Some config)) config keys e s
engages_first state config keys e s agrees public keyed drawn started anew settled alive low rows blank steady unsaved = record {
  stands = stands_first state config keys e s agrees public keyed drawn started rows blank steady;
  ready = ready_unsaved state ⊥ e s told_nothing agrees alive settled (ap (λ (p : Public). p.save) public ∙ unsaved);
  few = omega (arith, none_asked e s started blank.unasked);
  from = anew;
  high = omega (arith, low);
}

-- ---- an engine that was opened
length-read : (closing : Closing) → length (read_script closing) ≡ 1 + closing.blocks
length-read closing =
    let reads = length-each (read_at closing.region) 1 (λ i. refl) closing.blocks in
    let sum = length-append (open_at closing.region closing.blocks 1024) (each closing.blocks (read_at closing.region)) in
    omega (arith, reads, sum)

length-open : (pack : ℕ) (listed : List Listed) → length (open_script pack listed) ≡ length listed
length-open pack [] = refl
length-open pack (t ∷ listed) = omega (arith, length-open pack listed)

length-opening : (closing : Closing) (listed : List Listed) → length (opening_script closing listed) ≡ 1 + closing.blocks + length listed
length-opening closing listed = omega (arith, length-append (read_script closing) (open_script closing.pack listed), length-read closing, length-open closing.pack listed)

earlier_opened : (closing : Closing) (listed : List Listed) → IsMarked closing → earlier (opened_start closing listed) < 2 ^ 63 + 65
unfolding earlier
earlier_opened closing listed marked = omega (arith, marked.number_most, marked.blocks_most, marked.region_most)

module _ {R : Type 0} (state : R → RevState) (config : Config) (key : List ℕ) (keys : KeySet) (same : keys ≡ keys_of key) (closing : Closing) (marked : IsMarked closing) (pack : closing.pack ≡ config.pack)
    (e : Engine R) (s t : StoreState) (none : s.asked ≡ []) (opens : OpensEngine state config keys closing (Ok e) s t) (settled : replaced_of e ≡ None) (unsaved : config.save ≡ false) where
  abbrev is : IsOpened state config keys closing e s t
  is = opens.ok

  abbrev pub opened : Opened
  opened = record { keys = keys_of key; closing = closing; listed = is.listed; old = s; new = t }

  asked_is : t.asked ≡ opening_script closing is.listed
  asked_is = is.did.asked ∙ ap (λ l. l ++ opening_script closing is.listed) none

  count_is : count_of e t ≡ (reopened config opened).count
  count_is = omega (arith, ap earlier is.start, ap length asked_is)

  keyed : engine_keys e ≡ keys_of key
  keyed = is.keyed ∙ same

  stands : StandsOn state (reopened config opened) config (keys_of key) e t
  stands = record {
    settings = refl;
    public = is.public;
    flat = opened_flat config closing is.listed is.catalogue;
    unindexed = is.unindexed;
    pack = refl;
    buffer = refl;
    keep = refl;
    save = refl;
    rows = is.rows;
    count = count_is;
    start = is.start;
    asked = asked_is;
    keyed = keyed;
    drawn = subst (λ (k : KeySet). AreDraws e (first_draws k)) same is.drawn;
    calm = is.calm;
    used = λ some. omega (arith, is.high);
    held = λ tables rested. opens.told rested.tells rested.honest tables (subst (λ (k : KeySet). IsAtRest k closing s.kept tables) (sym same) rested.rests);
    earlier = is.earlier;
    sealed = λ tells tables rested good passes scope few.
        opens.sealed rested.tells rested.honest tables (subst (λ (k : KeySet). IsAtRest k closing s.kept tables) (sym same) rested.rests) (λ r. good) passes.0.0.0 passes.0.1 scope
        (omega (arith, few, is.did.faults));
    passes = λ good passes. passes.0.0;
    early = λ n before. absurd before;
  }

  few_listed : length is.listed + 1 ≡ closing.blocks
  few_listed = is.catalogue.count

  pub engages_opened : Engages state (reopened config opened) config (keys_of key) e t
  engages_opened = record {
    stands = stands;
    ready = ready_unsaved state ⊥ e t told_nothing is.agrees is.alive settled (ap (λ (p : Public). p.save) is.public ∙ unsaved);
    few =
        let most = earlier_opened closing is.listed marked in
        let long = length-opening closing is.listed in
        let blocks = marked.blocks_most in
        omega (arith, count_is, most, long, blocks, few_listed);
    from = is.from_closing;
    high = omega (arith, is.high);
  }

  pub opens_closing : OpensClosing closing config (keys_of key) (reopened config opened) s t
  opens_closing = record {
    listed = is.listed;
    catalogue = is.catalogue;
    is = refl;
    did = is.did;
    tells = opens.tells;
    told = λ tells honest tables rests.
        let holds = opens.told tells honest tables (subst (λ (k : KeySet). IsAtRest k closing s.kept tables) (sym same) rests) in
        held_headings (public_of e).pack (indexes_of e) (public_of e).tables tables (world_of state e t) holds.held ∙ ap (λ (p : Public). headings_of p.tables) is.public;
    fits = λ lie told.
        let fits = is.calm.calm lie told in
        subst (λ (x : Start). TagFits (keys_of key) x lie) is.start (subst (λ (k : KeySet). TagFits k (engine_start e) lie) keyed fits);
  }

-- ---- tables that were not opened
pub not_reopened : {R : Type 0} (state : R → RevState) (config : Config) (key : List ℕ) (keys : KeySet) → keys ≡ keys_of key → (closing : Closing) (error : OpenErr) (ending : KeptEnding) → ending ≡ opening_end error → (s t : StoreState)
    → OpensEngine state config keys closing (Err error) s t → NotReopened closing (keys_of key) ending s t
not_reopened state config key keys same closing error ending is s t opens = record {
  error = error;
  ends = is;
  opened = subst (λ (k : KeySet). NotOpened closing k error s t) same opens.err;
  honest = λ tells none tables rests. opens.told tells none tables (subst (λ (k : KeySet). IsAtRest k closing s.kept tables) (sym same) rests);
}

-- a mark of this pack
pub packs : (a b : ℕ) → a ≡ b → (a == b) ≡ true
packs a b is = rw is (grind (arith, nat_tests))

-- ---- an engine that was closed
closing_grew : {R : Type 0} {state : R → RevState} (r : Result Mark CloseErr) (e : Engine R) (s t : StoreState) → ClosesEngine state r e s t → (done : List Access) × (t.asked ≡ s.asked ++ done)
closing_grew (Err error) e s t closes = (closes.err.began.done, closes.err.began.asked)
closing_grew (Ok mark) e s t closes = go (is_used_up (next_closing e s)) refl where
  go : (b : Bool) → is_used_up (next_closing e s) ≡ b → (done : List Access) × (t.asked ≡ s.asked ++ done)
  go true is = ([], ap (λ (x : StoreState). x.asked) (closes.full is).same ∙ sym (append-nil s.asked))
  go false is = (closing_script e s, (closes.ok is).did.asked)

-- what was asked before it is asked still
pub closing_after : {R : Type 0} {state : R → RevState} (r : Result Mark CloseErr) (e : Engine R) (s t : StoreState) → ClosesEngine state r e s t → (from : ℕ) → from ≡ length s.asked → from ≤ length t.asked
closing_after r e s t closes from is =
    let grew = closing_grew r e s t closes in
    let long = ap length grew.1 in
    let sum = length-append s.asked grew.0 in
    omega (arith, is, long, sum)

-- and what was asked before it
pub closing_until : {R : Type 0} {state : R → RevState} (r : Result Mark CloseErr) (e : Engine R) (s t : StoreState) → ClosesEngine state r e s t → (from : ℕ) → from ≡ length s.asked → take from t.asked ≡ s.asked
closing_until r e s t closes from is = let grew = closing_grew r e s t closes in until s.asked t.asked grew.0 from grew.1 is

pub closes_run : {R T E : Type 0} {state : R → RevState} (tally : Tally) (tracing : Bool) (e : Engine R) (ended : KeptEnded) (s t : StoreState) (t0 t1 : Option (List ℕ)) (f0 f1 : ℕ) (k0 k1 : KeeperState) (result : Result Mark CloseErr)
    → ClosesEngine state result e s t → (call : Result T E) (from : ℕ) → from ≡ length s.asked → Outputs t0 t1 (IsErr call) (traced tracing (drop from t.asked)) → HasCause f0 f1 call
    → EndsWith result (Plain (Ran (Ok (has_refused tally)))) ended.ending f0 f1 k0 k1 → ended.quiet ≡ is_err call → ended.high ≡ high_of e → (ended.ending ≡ Plain (Ran (Ok (has_refused tally))) → ended.tally ≡ tally)
    → ClosesRun state tally tracing e ended s t t0 t1 f0 f1 k0 k1
closes_run tally tracing e ended s t t0 t1 f0 f1 k0 k1 result engine call from is cut cause ends quiet high counted =
    let grew = closing_grew result e s t engine in
    record {
      result = result;
      engine = engine;
      traced_all = record {
        seen = grew.0;
        grew = grew.1;
        cut = subst (λ (l : List Access). Outputs t0 t1 (Rises f0 f1) (traced tracing l)) (since s.asked t.asked grew.0 from grew.1 is) (cut_caused call f0 f1 cause cut);
      };
      later = cause.later;
      ends = ends;
      quiet = hushed call ended.quiet f0 f1 quiet cause;
      high = high;
      counted = counted;
    }

pub not_plain : (stop : Stop) (refused : Bool) (e : KeptEnding) {A : Type 0} → e ≡ Plain (Ran (Err stop)) → e ≡ Plain (Ran (Ok refused)) → A
not_plain stop refused e is other = absurd (cc (is, other))
