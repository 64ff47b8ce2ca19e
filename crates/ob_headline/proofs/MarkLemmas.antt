-- The mark that is held once a run ended, by what was done with it.
use Rattle.ob_headline.proofs.Words.{Access, Answer, ap, BadKey, Base, Bool, CloseErr, Closing, Config, Ending, EndsBehind, Err, Failed, false, FlightSettings, flying, if◌then◌else◌, inl, inr, InUse, is_used_up, KeeperFault, KeeperState, KeptEnding, keys_of, KeySet, List, Mark, mark_made, mark_of, MatchBool, Ok, Option, Outside, Plain, Ran, Report, Result, Some, StoreState, Story, subst, sym, Text, true, Usage, ℕ, ◌∙◌, ◌≡◌, ◌⊎◌}
use Rattle.ob_reopen.specs.Closed.{IsClosedAs, StaysInUse}
use Rattle.ob_headline.proofs.StopLemmas.{closing_stops}
use Rattle.ob_headline.specs.Flights.{public_after}
use Rattle.ob_headline.specs.Keeping.{EndsWith, NotBegun, Writes, closing_behind}
use Rattle.ob_headline.specs.KeptHeadline.{SessionKept, Unbegun, Unkeyed}
use Rattle.ob_headline.specs.KeptMarks.{HeldAfter, HeldBehind, KeptRun}
use Rattle.ob_reopen.specs.Keepers.{SetsMark}

-- ---- no statement was served
kept_held : (config : Config) (keys : KeySet) (ending : KeptEnding) (s t : StoreState) (f0 f1 : ℕ) (k0 k1 : KeeperState) (held : Mark) → k0.held ≡ Some held → NotBegun config keys ending s t f0 f1 k0 k1
    → (k1.held ≡ Some held) ⊎ ((ending ≡ KeeperFault) × (k1.held ≡ Some InUse))
kept_held config keys ending s t f0 f1 k0 k1 held is begun =
    let read : begun.read.held ≡ Some held = begun.gives.stays ∙ is in
    elim begun.why [
      | inl ends ↦ inl (ap (λ (k : KeeperState). k.held) ends.1 ∙ read)
      | inr vain ↦ elim vain.2.ends [
        | inl sink ↦ inl (ap (λ (k : KeeperState). k.held) sink.2 ∙ read)
        | inr keeper ↦ elim (keeper.2.failed held read) [ inl stays ↦ inl stays | inr set ↦ inr (keeper.0, set) ]
      ]
    ]

-- ---- a session
left_in_use : (ending : KeptEnding) (closing : Closing) (k : KeeperState) → k.held ≡ Some InUse → ((refused : Bool) → ending ≡ Plain (Ran (Ok refused)) → ⊥) → HeldBehind ending closing k.held
left_in_use ending closing k used stops = record {
  most = inl used;
  whole = λ refused is. absurd (stops refused is);
  stopped = λ stop is. used;
  failed = λ is. used;
}

made_is : (closing : Closing) (mark : Mark) (s t : StoreState) (script : List Access) (b : Bool) → MatchBool b (StaysInUse mark s t) (IsClosedAs closing script mark s t) → mark ≡ (if b then InUse else mark_of closing)
made_is closing mark s t script true stays = stays.is
made_is closing mark s t script false closed = closed.is

closed_held : (closing : Closing) (script : List Access) (result : Result Mark CloseErr) (refused : Bool) (ending : KeptEnding) (s t : StoreState) (f0 f1 : ℕ) (k0 k1 : KeeperState) → k0.held ≡ Some InUse
    → Writes closing script result s t → EndsWith result (Plain (Ran (Ok refused))) ending f0 f1 k0 k1 → HeldBehind ending closing k1.held
closed_held closing script (Err error) refused ending s t f0 f1 k0 k1 used writes ends =
    left_in_use ending closing k1 (ap (λ (k : KeeperState). k.held) ends.1 ∙ used) (λ other is. closing_stops error other (sym ends.0 ∙ is))
closed_held closing script (Ok mark) refused ending s t f0 f1 k0 k1 used writes (inl sink) =
    left_in_use ending closing k1 (ap (λ (k : KeeperState). k.held) sink.2 ∙ used) (λ other is. cc (sink.0, is))
closed_held closing script (Ok mark) refused ending s t f0 f1 k0 k1 used writes (inr handed) = go handed.1.result handed.1.sets handed.1.ends
  where
    made : mark ≡ mark_made closing
    made = made_is closing mark s t script (is_used_up closing) writes

    go : (result : Result (Unit {0}) Failed) → SetsMark mark result k0 k1 → ending ≡ (elim result [ Ok done ↦ Plain (Ran (Ok refused)) | Err failed ↦ KeeperFault ]) → HeldBehind ending closing k1.held
    go (Ok done) sets ends =
        let set : k1.held ≡ Some (mark_made closing) = sets.told InUse used ∙ ap Some made in
        record {
          most = inr set;
          whole = λ other is. set;
          stopped = λ stop is. absurd (cc (ends, is));
          failed = λ is. absurd (cc (ends, is));
        }
    go (Err failed) sets ends = record {
      most = elim (sets.failed InUse used) [ inl stays ↦ inl stays | inr set ↦ inr (set ∙ ap Some made) ];
      whole = λ other is. absurd (cc (ends, is));
      stopped = λ stop is. absurd (cc (ends, is));
      failed = λ is. absurd (cc (ends, is));
    }

behind_held : (ended : Ending) (base : Base) (keys : KeySet) (tracing : Bool) (story : Story) (begun served new : Outside) (run report : Report) (k0 k1 : KeeperState) (ending : KeptEnding)
    → k0.held ≡ Some InUse → EndsBehind ended base keys tracing story begun served new run report k0 k1 ending → HeldBehind ending (closing_behind (public_after base story.entries) base.start served.store.asked) k1.held
behind_held Usage base keys tracing story begun served new run report k0 k1 ending used behind = absurd behind
behind_held BadKey base keys tracing story begun served new run report k0 k1 ending used behind = absurd behind
behind_held (Ran (Err stop)) base keys tracing story begun served new run report k0 k1 ending used behind =
    left_in_use ending _ k1 (ap (λ (k : KeeperState). k.held) behind.kept ∙ used) (λ other is. cc (behind.is, is))
behind_held (Ran (Ok refused)) base keys tracing story begun served new run report k0 k1 ending used behind =
    let closes = behind.tables.closes in
    subst (λ (c : Closing). HeldBehind ending c k1.held) behind.tables.is (closed_held behind.tables.closing _ closes.result refused ending _ _ _ _ k0 k1 used closes.writes closes.ends)

-- ---- the run
pub held_after : {settings : Option Config} {flight : Option FlightSettings} {Takes : Type 0} {tracing : Bool} {old new : Outside} {k0 k1 : KeeperState} {ending : KeptEnding} {answers : List Answer} {report : Report}
    (run : Unkeyed settings flight Takes tracing old new k0 k1 ending answers report ⊎ (Unbegun settings Takes tracing old new k0 k1 ending answers report ⊎ SessionKept settings flight Takes tracing old new k0 k1 ending answers report))
    (held : Mark) → k0.held ≡ Some held → HeldAfter run held
held_after (inl run) held is = ap (λ (k : KeeperState). k.held) run.kept ∙ is
held_after (inr (inl run)) held is = kept_held run.config (keys_of run.secret) _ _ _ _ _ _ _ held is run.begun
held_after {flight = flight} {tracing = tracing} {old = old} {new = new} {k1 = k1} {ending = ending} {report = report} (inr (inr run)) held is =
    behind_held run.session.ending (flying flight run.base) (keys_of run.secret) tracing run.session.story _ run.served new run.run report run.in_use k1 ending
    (run.began.in_use.told held (run.began.gives.stays ∙ is)) run.behind

pub marks_held : (words : List Text) (old new : Outside) (k0 k1 : KeeperState) (report : Report) (run : KeptRun words old new k0 k1 report) (held : Mark) → k0.held ≡ Some held → HeldAfter run.ran held
marks_held words old new k0 k1 report run held is = held_after run.ran held is
