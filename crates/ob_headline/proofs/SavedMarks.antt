-- The mark that is held once a run ended that saves its tables, and what rests for it where no statement was served.
use Rattle.ob_headline.proofs.Words.{Answer, ap, Base, Begun, Bool, Closed, closing_named, Config, Err, Failed, false, FlightSettings, Fresh, inl, inr, InUse, IsTrue, KeeperState, KeptEnding, KeptRegion, KeySet, List, Mark, MatchBool, None, Ok, Option, OtherPack, Outside, refl, Report, Result, RunSaved, Saved, Some, StoreState, subst, sym, Tables, Text, true, ℕ, ◌==◌, ◌∙◌, ◌≡◌, ◌⊎◌}
use Rattle.ob_headline.specs.SavedRuns.{LeavesHeld, Outlasts, SavedRun}
use Rattle.ob_headline.specs.Saving.{BeganSaved, BeginsSaved, EndsMarked, EndsSalted, EndsShut, HandsBegun, LooksBare, RefusesMark, RestsAt, StaysLocked, StaysShut, begun_mark}
use Rattle.ob_reopen.specs.Keepers.{GivesMark}

-- ---- what is kept stays
abbrev Stays : (old new : StoreState) → Type 0
Stays old new = (q : ℕ) → new.kept q ≡ old.kept q

same_stays : (old new : StoreState) → new ≡ old → Stays old new
same_stays old new same q = ap (λ (s : StoreState). s.kept q) same

looks_stays : (mark : Mark) (old new : StoreState) → LooksBare mark old new → Stays old new
looks_stays Fresh old new looks = looks.syncs.keeps.kept
looks_stays InUse old new looks = absurd looks
looks_stays other old new looks = same_stays old new looks

refused_stays : (mark : Mark) (ending : KeptEnding) (old new : StoreState) → RefusesMark mark ending old new → Stays old new
refused_stays Fresh ending old new refused = refused.syncs.keeps.kept
refused_stays InUse ending old new refused = same_stays old new refused.1
refused_stays other ending old new refused = absurd refused

shut_stays : (mark : Mark) (config : Config) (secret salt : List ℕ) (ending : KeptEnding) (old new : StoreState) → EndsShut mark config secret salt ending old new → Stays old new
shut_stays Fresh config secret salt ending old new shut = shut.1.syncs.keeps.kept
shut_stays InUse config secret salt ending old new shut = absurd shut
shut_stays (Closed region blocks number pack) config secret salt ending old new shut = go (pack == config.pack) shut
  where
    go : (b : Bool) → MatchBool b (StaysShut None (closing_named region blocks number pack) secret salt ending old new) ((ending ≡ OtherPack) × (new ≡ old)) → Stays old new
    go true stays = stays.kept
    go false other = same_stays old new other.1
shut_stays Begun config secret salt ending old new shut = same_stays old new shut.1
shut_stays (Saved region blocks number pack closed check) config secret salt ending old new shut = go (pack == config.pack) shut
  where
    go : (b : Bool) → MatchBool b (StaysLocked closed check (closing_named region blocks number pack) secret salt ending old new) ((ending ≡ OtherPack) × (new ≡ old)) → Stays old new
    go true (inl fits) = fits.1.kept
    go true (inr key) = same_stays old new key.2
    go false other = same_stays old new other.1

-- ---- so what rests for a mark does
rests_on : (secret : List ℕ) (mark : Mark) (old new : StoreState) (tables : Tables) → Stays old new → RestsAt secret mark old.kept tables → RestsAt secret mark new.kept tables
rests_on secret mark old new tables stays rests = subst (λ (kept : ℕ → Option KeptRegion). RestsAt secret mark kept tables) (sym (λ i q. stays q i)) rests

-- none rest for `Begun` as for a fresh mark
rests_begun : (secret : List ℕ) (mark : Mark) (kept : ℕ → Option KeptRegion) (tables : Tables) → RestsAt secret mark kept tables → RestsAt secret (begun_mark mark) kept tables
rests_begun secret Fresh kept tables rests = rests
rests_begun secret other kept tables rests = rests

-- nor is anything given up that rests for the mark that was begun from
rests_behind : (mark : Mark) (config : Config) (secret salt : List ℕ) (keys : KeySet) (base : Base) (old new : StoreState) → BeginsSaved mark config secret salt keys base old new → IsTrue old.tells → new.lie ≡ None
    → (tables : Tables) → RestsAt secret mark old.kept tables → RestsAt secret (begun_mark mark) new.kept tables
rests_behind Fresh config secret salt keys base old new begins tells honest tables rests = rests
rests_behind InUse config secret salt keys base old new begins tells honest tables rests = absurd begins
rests_behind (Closed region blocks number pack) config secret salt keys base old new begins tells honest tables rests = (begins.1.told tells honest tables rests).rests
rests_behind Begun config secret salt keys base old new begins tells honest tables rests = rests
rests_behind (Saved region blocks number pack closed check) config secret salt keys base old new begins tells honest tables rests = (begins.1, (begins.2.told tells honest tables rests.1).rests)

-- ---- what the keeper holds
stays_as : (mark : Mark) (k0 k1 : KeeperState) (held : Mark) → k1 ≡ k0 → k0.held ≡ Some held → mark ≡ held → k1.held ≡ Some mark
stays_as mark k0 k1 held same is read = ap (λ (k : KeeperState). k.held) same ∙ is ∙ ap Some (sym read)

pub handed : (mark : Mark) (k0 k1 : KeeperState) (held : Mark) → HandsBegun mark (Ok tt) k0 k1 → k0.held ≡ Some held → mark ≡ held → k1.held ≡ Some (begun_mark mark)
handed Fresh k0 k1 held hands is read = hands.told held is
handed InUse k0 k1 held hands is read = absurd hands
handed (Closed region blocks number pack) k0 k1 held hands is read = stays_as (Closed region blocks number pack) k0 k1 held hands is read
handed Begun k0 k1 held hands is read = stays_as Begun k0 k1 held hands is read
handed (Saved region blocks number pack salt check) k0 k1 held hands is read = stays_as (Saved region blocks number pack salt check) k0 k1 held hands is read

unhanded : (mark : Mark) (failed : Failed) (k0 k1 : KeeperState) (held : Mark) → HandsBegun mark (Err failed) k0 k1 → k0.held ≡ Some held → mark ≡ held → (k1.held ≡ Some held) ⊎ (k1.held ≡ Some (begun_mark held))
unhanded Fresh failed k0 k1 held hands is read =
    elim (hands.failed held is) [ inl same ↦ inl same | inr set ↦ inr (set ∙ ap (λ (m : Mark). Some (begun_mark m)) read) ]
unhanded other failed k0 k1 held hands is read = absurd hands

-- ---- no statement was served
record Left (secret : List ℕ) (old new : StoreState) (k1 : KeeperState) (held : Mark) : Type 0 where
  mark : Mark
  is : k1.held ≡ Some mark
  which : (mark ≡ held) ⊎ (mark ≡ begun_mark held)
  rests : Outlasts secret held mark old new

module _ (config : Config) (secret : List ℕ) (ending : KeptEnding) (old new : StoreState) (f0 f1 : ℕ) (k1 : KeeperState) (held : Mark) where
  left_so : k1.held ≡ Some held → Stays old new → Left secret old new k1 held
  left_so is stays = record {
    mark = held;
    is = is;
    which = inl refl;
    rests = record { rests = λ tells honest tables rests. rests_on secret held old new tables stays rests };
  }

  left_begun : k1.held ≡ Some (begun_mark held) → Stays old new → Left secret old new k1 held
  left_begun is stays = record {
    mark = begun_mark held;
    is = is;
    which = inr refl;
    rests = record { rests = λ tells honest tables rests. rests_begun secret held new.kept tables (rests_on secret held old new tables stays rests) };
  }

  left_salted : (mark : Mark) (salt : Result (List ℕ) Failed) (drawn : KeeperState) → EndsSalted salt mark config secret ending old new f0 f1 drawn k1 → drawn.held ≡ Some held → mark ≡ held → Left secret old new k1 held
  left_salted mark (Err failed) drawn why is read = left_so (ap (λ (k : KeeperState). k.held) why.2 ∙ is) (looks_stays mark old new why.1)
  left_salted mark (Ok salt) drawn (inl shut) is read = left_so (ap (λ (k : KeeperState). k.held) shut.1 ∙ is) (shut_stays mark config secret salt ending old new shut.0)
  left_salted mark (Ok salt) drawn (inr (inl vain)) is read = elim (unhanded mark vain.failed drawn k1 held vain.hands is read) [
    | inl same ↦ left_so same (looks_stays mark old new vain.looks)
    | inr set ↦ left_begun set (looks_stays mark old new vain.looks)
  ]
  left_salted mark (Ok salt) drawn (inr (inr vain)) is read = record {
    mark = begun_mark held;
    is = handed mark drawn k1 held vain.hands is read ∙ ap (λ (m : Mark). Some (begun_mark m)) read;
    which = inr refl;
    rests = record {
      rests = λ tells honest tables rests. subst (λ (m : Mark). RestsAt secret (begun_mark m) new.kept tables) read
          (rests_behind mark config secret salt vain.keys vain.base old new vain.begins tells honest tables
          (subst (λ (m : Mark). RestsAt secret m old.kept tables) (sym read) rests));
    };
  }

  left_marked : (mark : Result Mark Failed) (read k0 : KeeperState) → GivesMark mark k0 read → EndsMarked mark config secret ending old new f0 f1 read k1 → k0.held ≡ Some held → Left secret old new k1 held
  left_marked (Err failed) read k0 gives why is = left_so (ap (λ (k : KeeperState). k.held) why.2 ∙ gives.stays ∙ is) (same_stays old new why.1)
  left_marked (Ok mark) read k0 gives (inl refused) is = left_so (ap (λ (k : KeeperState). k.held) refused.1 ∙ gives.stays ∙ is) (refused_stays mark ending old new refused.0)
  left_marked (Ok mark) read k0 gives (inr salted) is =
      left_salted mark salted.salt salted.drawn salted.why (salted.draws.stays ∙ gives.stays ∙ is) (gives.told held is)

-- ---- a session
pub begun_held : (config : Config) (secret salt : List ℕ) (keys : KeySet) (tracing : Bool) (base : Base) (old new : StoreState) (traced0 traced1 : Option (List ℕ)) (k0 k1 : KeeperState) (began : BeganSaved config secret salt keys tracing base old new traced0 traced1 k0 k1)
    (held : Mark) → k0.held ≡ Some held → k1.held ≡ Some (begun_mark began.mark)
begun_held config secret salt keys tracing base old new traced0 traced1 k0 k1 began held is =
    handed began.mark began.drawn k1 held began.hands (began.draws.stays ∙ began.gives.stays ∙ is) (began.gives.told held is)

-- ---- the run
pub leaves_held : {settings : Option Config} {flight : Option FlightSettings} {Takes : Type 0} {tracing : Bool} {old new : Outside} {k0 k1 : KeeperState} {ending : KeptEnding} {answers : List Answer} {report : Report}
    (ran : RunSaved settings flight Takes tracing old new k0 k1 ending answers report) (held : Mark) → k0.held ≡ Some held → LeavesHeld ran held
leaves_held {old = old} {new = new} (inl run) held is = record {
  mark = held;
  is = ap (λ (k : KeeperState). k.held) run.kept ∙ is;
  which = refl;
  rests = λ secret. record { rests = λ tells honest tables rests. rests_on secret held old.store new.store tables (same_stays old.store new.store run.unasked) rests };
}
leaves_held {old = old} {new = new} {k0 = k0} {k1 = k1} {ending = ending} (inr (inl run)) held is =
    let left = left_marked run.config run.secret ending old.store new.store old.faults.trace new.faults.trace k1 held run.begun.mark run.begun.read k0 run.begun.gives run.begun.why is in
    record { mark = left.mark; is = left.is; which = left.which; rests = left.rests }
leaves_held {tracing = tracing} {old = old} {k0 = k0} (inr (inr run)) held is =
    let began = run.began in
    let read : began.mark ≡ held = began.gives.told held is in
    let left = (run.leaves held is).told (begun_mark began.mark) (begun_held run.config run.secret run.salt run.keys tracing run.base old.store run.opened old.traced run.traced k0 run.begun began held is) in
    record {
      mark = left.0;
      is = left.1;
      which = elim left.2.which [ inl same ↦ inl (same ∙ ap begun_mark read) | inr saves ↦ inr saves ];
      rests = tt;
    }

pub saved_held : (words : List Text) (old new : Outside) (k0 k1 : KeeperState) (report : Report) (run : SavedRun words old new k0 k1 report) (held : Mark) → k0.held ≡ Some held → LeavesHeld run.ran held
saved_held words old new k0 k1 report run held is = leaves_held run.ran held is
