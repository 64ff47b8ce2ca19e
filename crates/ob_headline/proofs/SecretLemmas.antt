-- A run that saves its tables under another secret than the run that left the mark which is held.
use Rattle.ob_headline.proofs.Words.{Answer, Base, Begun, Bool, Closed, Closing, closing_named, Config, Err, Failed, false, FlightSettings, Fresh, inl, inr, InUse, KeeperFault, KeeperState, KeptEnding, KeptRegion, KeySet, List, Mark, MatchBool, None, Ok, Option, OtherPack, Outside, Report, Result, RunSaved, Saved, Some, StoreState, subst, sym, Tables, Text, true, ℕ, ◌==◌, ◌≡◌}
use Rattle.std.specs.Prelude.{◌≢◌}
use Rattle.ob_headline.specs.Keeping.{opening_end}
use Rattle.ob_headline.specs.SavedRuns.{IsOfOther, IsToldWrong, SavedRun, saved_secret}
use Rattle.ob_headline.specs.Saving.{BeginsSaved, EndsMarked, EndsSalted, EndsShut, HandsBegun, LooksBare, RefusesMark, RestsAt, StaysLocked, StaysShut}
use Rattle.ob_headline.specs.declared.ending.KeptEnding.TheVariants.{OtherKey}
use Rattle.ob_reopen.specs.Keepers.{GivesMark}
use Rattle.ob_reopen.specs.declared.fault.OpenErr.{OpenErr}
use Rattle.ob_reopen.specs.declared.fault.OpenErr.TheVariants as OpenErrs
use Rattle.ob_seal.specs.Sealed.{check_of}

-- ---- it doesn't begin
unbegun : (mark : Mark) (config : Config) (secret salt : List ℕ) (keys : KeySet) (base : Base) (old new : StoreState) → IsOfOther secret mark → BeginsSaved mark config secret salt keys base old new → ⊥
unbegun (Saved region blocks number pack closed check) config secret salt keys base old new other begins = other begins.1
unbegun mark config secret salt keys base old new other begins = absurd other

unhanded : (mark : Mark) (secret : List ℕ) (failed : Failed) (k0 k1 : KeeperState) → IsOfOther secret mark → HandsBegun mark (Err failed) k0 k1 → ⊥
unhanded (Saved region blocks number pack closed check) secret failed k0 k1 other hands = hands
unhanded mark secret failed k0 k1 other hands = absurd other

-- ---- how it ends
module _ (config : Config) (secret : List ℕ) (ending : KeptEnding) (old new : StoreState) where
  locked : (b : Bool) (closed check : List ℕ) (closing : Closing) (salt : List ℕ) → check ≢ check_of secret (Some closed) → MatchBool b (StaysLocked closed check closing secret salt ending old new) ((ending ≡ OtherPack) × (new ≡ old)) → IsToldWrong ending old new
  locked true closed check closing salt other (inl fits) = absurd (other fits.0)
  locked true closed check closing salt other (inr key) = record { ends = inl key.1; unasked = key.2 }
  locked false closed check closing salt other pack = record { ends = inr (inl pack.0); unasked = pack.1 }

  shut : (mark : Mark) (salt : List ℕ) → IsOfOther secret mark → EndsShut mark config secret salt ending old new → IsToldWrong ending old new
  shut (Saved region blocks number pack closed check) salt other ends = locked (pack == config.pack) closed check (closing_named region blocks number pack) salt other ends
  shut mark salt other ends = absurd other

  unlooked : (mark : Mark) → IsOfOther secret mark → ending ≡ KeeperFault → LooksBare mark old new → IsToldWrong ending old new
  unlooked (Saved region blocks number pack closed check) other is looks = record { ends = inr (inr is); unasked = looks }
  unlooked mark other is looks = absurd other

  unrefused : (mark : Mark) → IsOfOther secret mark → RefusesMark mark ending old new → IsToldWrong ending old new
  unrefused (Saved region blocks number pack closed check) other refuses = absurd refuses
  unrefused mark other refuses = absurd other

  salted : (salt : Result (List ℕ) Failed) (mark : Mark) (f0 f1 : ℕ) (drawn k1 : KeeperState) → IsOfOther secret mark → EndsSalted salt mark config secret ending old new f0 f1 drawn k1 → IsToldWrong ending old new
  salted (Err failed) mark f0 f1 drawn k1 other ends = unlooked mark other ends.0 ends.1
  salted (Ok salt) mark f0 f1 drawn k1 other (inl ends) = shut mark salt other ends.0
  salted (Ok salt) mark f0 f1 drawn k1 other (inr (inl vain)) = absurd (unhanded mark secret vain.failed drawn k1 other vain.hands)
  salted (Ok salt) mark f0 f1 drawn k1 other (inr (inr vain)) = absurd (unbegun mark config secret salt vain.keys vain.base old new other vain.begins)

  marked : (mark : Result Mark Failed) (f0 f1 : ℕ) (k0 read k1 : KeeperState) (held : Mark) → GivesMark mark k0 read → k0.held ≡ Some held → IsOfOther secret held → EndsMarked mark config secret ending old new f0 f1 read k1 → IsToldWrong ending old new
  marked (Err failed) f0 f1 k0 read k1 held gives is other ends = record { ends = inr (inr ends.0); unasked = ends.1 }
  marked (Ok mark) f0 f1 k0 read k1 held gives is other (inl refuses) = unrefused mark (subst (IsOfOther secret) (sym (gives.told held is)) other) refuses.0
  marked (Ok mark) f0 f1 k0 read k1 held gives is other (inr vain) = salted vain.salt mark f0 f1 vain.drawn k1 (subst (IsOfOther secret) (sym (gives.told held is)) other) vain.why

  -- ---- under the secret of the mark it doesn't end so
  module _ (is : ending ≡ OtherKey) where
    opens_else : (error : OpenErr) → ending ≡ opening_end error → ⊥
    opens_else OpenErrs.Failed ends = cc (ends, is)
    opens_else (OpenErrs.Tampered region place) ends = cc (ends, is)
    opens_else OpenErrs.NoMemory ends = cc (ends, is)

    shut_by : (b : Bool) (closed : Option (List ℕ)) (closing : Closing) (salt : List ℕ) → MatchBool b (StaysShut closed closing secret salt ending old new) ((ending ≡ OtherPack) × (new ≡ old)) → ⊥
    shut_by true closed closing salt not = opens_else not.error not.ends
    shut_by false closed closing salt pack = cc (pack.0, is)

    locked_by : (b : Bool) (closed check : List ℕ) (closing : Closing) (salt : List ℕ) → check ≡ check_of secret (Some closed) → MatchBool b (StaysLocked closed check closing secret salt ending old new) ((ending ≡ OtherPack) × (new ≡ old)) → ⊥
    locked_by true closed check closing salt fits (inl not) = opens_else not.1.error not.1.ends
    locked_by true closed check closing salt fits (inr key) = key.0 fits
    locked_by false closed check closing salt fits pack = cc (pack.0, is)

    shut_else : (mark : Mark) (salt : List ℕ) (kept : ℕ → Option KeptRegion) (tables : Tables) → RestsAt secret mark kept tables → EndsShut mark config secret salt ending old new → ⊥
    shut_else Fresh salt kept tables rests ends = cc (ends.0, is)
    shut_else InUse salt kept tables rests ends = absurd ends
    shut_else (Closed region blocks number pack) salt kept tables rests ends = shut_by (pack == config.pack) None (closing_named region blocks number pack) salt ends
    shut_else Begun salt kept tables rests ends = cc (ends.0, is)
    shut_else (Saved region blocks number pack closed check) salt kept tables rests ends = locked_by (pack == config.pack) closed check (closing_named region blocks number pack) salt rests.0 ends

    refuses_else : (mark : Mark) → RefusesMark mark ending old new → ⊥
    refuses_else Fresh ends = elim ends.why [ inl none ↦ cc (none.0, is) | inr fault ↦ cc (fault.0, is) ]
    refuses_else InUse ends = cc (ends.0, is)
    refuses_else other ends = absurd ends

    salted_else : (salt : Result (List ℕ) Failed) (mark : Mark) (f0 f1 : ℕ) (drawn k1 : KeeperState) (kept : ℕ → Option KeptRegion) (tables : Tables) → RestsAt secret mark kept tables → EndsSalted salt mark config secret ending old new f0 f1 drawn k1 → ⊥
    salted_else (Err failed) mark f0 f1 drawn k1 kept tables rests ends = cc (ends.0, is)
    salted_else (Ok salt) mark f0 f1 drawn k1 kept tables rests (inl ends) = shut_else mark salt kept tables rests ends.0
    salted_else (Ok salt) mark f0 f1 drawn k1 kept tables rests (inr (inl vain)) = let ends = vain.ends in cc (ends, is)
    salted_else (Ok salt) mark f0 f1 drawn k1 kept tables rests (inr (inr vain)) = let ends = vain.ends in cc (ends, is)

    marked_else : (mark : Result Mark Failed) (f0 f1 : ℕ) (k0 read k1 : KeeperState) (held : Mark) (kept : ℕ → Option KeptRegion) (tables : Tables) → GivesMark mark k0 read → k0.held ≡ Some held → RestsAt secret held kept tables
        → EndsMarked mark config secret ending old new f0 f1 read k1 → ⊥
    marked_else (Err failed) f0 f1 k0 read k1 held kept tables gives told rests ends = cc (ends.0, is)
    marked_else (Ok mark) f0 f1 k0 read k1 held kept tables gives told rests (inl refuses) = refuses_else mark refuses.0
    marked_else (Ok mark) f0 f1 k0 read k1 held kept tables gives told rests (inr vain) =
        salted_else vain.salt mark f0 f1 vain.drawn k1 kept tables (subst (λ (m : Mark). RestsAt secret m kept tables) (sym (gives.told held told)) rests) vain.why

-- ---- the run
told_wrong : {settings : Option Config} {flight : Option FlightSettings} {Takes : Type 0} {tracing : Bool} {old new : Outside} {k0 k1 : KeeperState} {ending : KeptEnding} {answers : List Answer} {report : Report}
    (ran : RunSaved settings flight Takes tracing old new k0 k1 ending answers report) (secret : List ℕ) → saved_secret ran ≡ Some secret → (held : Mark) → k0.held ≡ Some held → IsOfOther secret held → IsToldWrong ending old.store new.store
told_wrong (inl run) secret keyed held is other = absurd (cc keyed)
told_wrong {old = old} {new = new} {k0 = k0} {k1 = k1} {ending = ending} (inr (inl run)) secret keyed held is other =
    let same : run.secret ≡ secret = cc keyed in
    marked run.config run.secret ending old.store new.store run.begun.mark old.faults.trace new.faults.trace k0 run.begun.read k1 held run.begun.gives is (subst (λ (x : List ℕ). IsOfOther x held) (sym same) other) run.begun.why
told_wrong {old = old} (inr (inr run)) secret keyed held is other =
    let same : run.secret ≡ secret = cc keyed in
    let read : run.began.mark ≡ held = run.began.gives.told held is in
    absurd (unbegun run.began.mark run.config run.secret run.salt run.keys run.base old.store run.opened (subst (IsOfOther run.secret) (sym read) (subst (λ (x : List ℕ). IsOfOther x held) (sym same) other)) run.began.begins)

told_own : {settings : Option Config} {flight : Option FlightSettings} {Takes : Type 0} {tracing : Bool} {old new : Outside} {k0 k1 : KeeperState} {ending : KeptEnding} {answers : List Answer} {report : Report}
    (ran : RunSaved settings flight Takes tracing old new k0 k1 ending answers report) (secret : List ℕ) → saved_secret ran ≡ Some secret → (held : Mark) → k0.held ≡ Some held → (tables : Tables) → RestsAt secret held old.store.kept tables → ending ≢ OtherKey
told_own (inl run) secret keyed held is tables rests ends = absurd (cc keyed)
told_own {old = old} {new = new} {k0 = k0} {k1 = k1} {ending = ending} (inr (inl run)) secret keyed held is tables rests ends =
    let same : run.secret ≡ secret = cc keyed in
    absurd (marked_else run.config run.secret ending old.store new.store ends run.begun.mark old.faults.trace new.faults.trace k0 run.begun.read k1 held old.store.kept tables run.begun.gives is (subst (λ (x : List ℕ). RestsAt x held old.store.kept tables) (sym same) rests) run.begun.why)
told_own (inr (inr run)) secret keyed held is tables rests ends = let plain = run.is in absurd (cc (plain, ends))

pub wrong_told : (words : List Text) (old new : Outside) (k0 k1 : KeeperState) (report : Report) (run : SavedRun words old new k0 k1 report) (secret : List ℕ) → saved_secret run.ran ≡ Some secret → (held : Mark) → k0.held ≡ Some held → IsOfOther secret held
    → IsToldWrong run.ending old.store new.store
wrong_told words old new k0 k1 report run secret keyed held is other = told_wrong run.ran secret keyed held is other

pub own_told : (words : List Text) (old new : Outside) (k0 k1 : KeeperState) (report : Report) (run : SavedRun words old new k0 k1 report) (secret : List ℕ) → saved_secret run.ran ≡ Some secret → (held : Mark) → k0.held ≡ Some held → (tables : Tables) → RestsAt secret held old.store.kept tables
    → run.ending ≢ OtherKey
own_told words old new k0 k1 report run secret keyed held is tables rests = told_own run.ran secret keyed held is tables rests
