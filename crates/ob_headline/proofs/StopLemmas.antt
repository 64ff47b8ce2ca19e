-- Where a run with `--keep` or `--save` stops.
use Rattle.ob_headline.proofs.Words.{Begun, Bool, Closed, CloseErr, Closing, closing_named, Config, Err, Failed, false, Fresh, inl, inr, InUse, KeeperState, KeptEnding, KeySet, List, Mark, MatchBool, None, Ok, Option, OtherPack, Plain, Ran, Result, Saved, StoreState, sym, true, ℕ, ◌==◌, ◌∙◌, ◌≡◌}
use Rattle.ob_headline.specs.Keeping.{EndsAtMark, NotBegun, NotReopened, closing_end, opening_end}
use Rattle.ob_headline.specs.Saving.{EndsMarked, EndsSalted, EndsShut, NotBegunSaved, RefusesMark, StaysLocked, StaysShut}
use Rattle.ob_reopen.specs.declared.fault.CloseErr.TheVariants as CloseErrs
use Rattle.ob_reopen.specs.declared.fault.OpenErr.{OpenErr}
use Rattle.ob_reopen.specs.declared.fault.OpenErr.TheVariants as OpenErrs

-- ---- how a run ends that may be closed
-- where its tables can't be opened, or closed, it doesn't come to its end
opening_stops : (error : OpenErr) (refused : Bool) → opening_end error ≡ Plain (Ran (Ok refused)) → ⊥
opening_stops OpenErrs.Failed refused is = cc is
opening_stops other refused is = cc is

pub closing_stops : (error : CloseErr) (refused : Bool) → closing_end error ≡ Plain (Ran (Ok refused)) → ⊥
closing_stops CloseErrs.Failed refused is = cc is
closing_stops CloseErrs.NoMemory refused is = cc is

-- neither where it ends at the mark
mark_stops : (mark : Result Mark Failed) (config : Config) (keys : KeySet) (ending : KeptEnding) (s t : StoreState) (refused : Bool) → EndsAtMark mark config keys ending s t → ending ≡ Plain (Ran (Ok refused)) → ⊥
mark_stops (Ok (Closed region blocks number pack)) config keys ending s t refused ends is = go (pack == config.pack) ends
  where
    go : (b : Bool) → MatchBool b (NotReopened (closing_named region blocks number pack) keys ending s t) ((ending ≡ OtherPack) × (t ≡ s)) → ⊥
    go true not = opening_stops not.error refused (sym not.ends ∙ is)
    go false other = cc (other.0, is)
mark_stops other config keys ending s t refused ends is = cc (ends.0, is)

pub begun_stops : (config : Config) (keys : KeySet) (ending : KeptEnding) (s t : StoreState) (f0 f1 : ℕ) (k0 k1 : KeeperState) (refused : Bool) → NotBegun config keys ending s t f0 f1 k0 k1 → ending ≡ Plain (Ran (Ok refused)) → ⊥
begun_stops config keys ending s t f0 f1 k0 k1 refused begun is = elim begun.why [
  | inl ends ↦ mark_stops begun.mark config keys ending s t refused ends.0 is
  | inr held ↦ elim held.2.ends [ inl sink ↦ cc (sink.0, is) | inr keeper ↦ cc (keeper.0, is) ]
]

-- ---- nor does one whose tables are saved, before a statement is served
module _ (config : Config) (secret : List ℕ) (ending : KeptEnding) (s t : StoreState) (refused : Bool) (is : ending ≡ Plain (Ran (Ok refused))) where
  refusal_stops : (mark : Mark) → RefusesMark mark ending s t → ⊥
  refusal_stops Fresh ends = elim ends.why [ inl none ↦ cc (none.0, is) | inr fault ↦ cc (fault.0, is) ]
  refusal_stops InUse ends = cc (ends.0, is)
  refusal_stops other ends = ends

  shut_by : (b : Bool) (closed : Option (List ℕ)) (closing : Closing) (salt : List ℕ) → MatchBool b (StaysShut closed closing secret salt ending s t) ((ending ≡ OtherPack) × (t ≡ s)) → ⊥
  shut_by true closed closing salt not = opening_stops not.error refused (sym not.ends ∙ is)
  shut_by false closed closing salt other = cc (other.0, is)

  locked_by : (b : Bool) (closed check : List ℕ) (closing : Closing) (salt : List ℕ) → MatchBool b (StaysLocked closed check closing secret salt ending s t) ((ending ≡ OtherPack) × (t ≡ s)) → ⊥
  locked_by true closed check closing salt (inl fits) = opening_stops fits.1.error refused (sym fits.1.ends ∙ is)
  locked_by true closed check closing salt (inr key) = cc (key.1, is)
  locked_by false closed check closing salt other = cc (other.0, is)

  shut_stops : (mark : Mark) (salt : List ℕ) → EndsShut mark config secret salt ending s t → ⊥
  shut_stops Fresh salt ends = cc (ends.0, is)
  shut_stops InUse salt ends = ends
  shut_stops (Closed region blocks number pack) salt ends = shut_by (pack == config.pack) None (closing_named region blocks number pack) salt ends
  shut_stops Begun salt ends = cc (ends.0, is)
  shut_stops (Saved region blocks number pack closed check) salt ends = locked_by (pack == config.pack) closed check (closing_named region blocks number pack) salt ends

  salted_stops : (salt : Result (List ℕ) Failed) (mark : Mark) (f0 f1 : ℕ) (drawn k1 : KeeperState) → EndsSalted salt mark config secret ending s t f0 f1 drawn k1 → ⊥
  salted_stops (Err failed) mark f0 f1 drawn k1 ends = cc (ends.0, is)
  salted_stops (Ok salt) mark f0 f1 drawn k1 (inl shut) = shut_stops mark salt shut.0
  salted_stops (Ok salt) mark f0 f1 drawn k1 (inr (inl vain)) = let ends = vain.ends in cc (ends, is)
  salted_stops (Ok salt) mark f0 f1 drawn k1 (inr (inr vain)) = let ends = vain.ends in cc (ends, is)

  marked_stops : (mark : Result Mark Failed) (f0 f1 : ℕ) (read k1 : KeeperState) → EndsMarked mark config secret ending s t f0 f1 read k1 → ⊥
  marked_stops (Err failed) f0 f1 read k1 ends = cc (ends.0, is)
  marked_stops (Ok mark) f0 f1 read k1 (inl refuses) = refusal_stops mark refuses.0
  marked_stops (Ok mark) f0 f1 read k1 (inr salted) = salted_stops salted.salt mark f0 f1 salted.drawn k1 salted.why

pub unbegun_stops : (config : Config) (secret : List ℕ) (ending : KeptEnding) (s t : StoreState) (f0 f1 : ℕ) (k0 k1 : KeeperState) (refused : Bool) → NotBegunSaved config secret ending s t f0 f1 k0 k1 → ending ≡ Plain (Ran (Ok refused)) → ⊥
unbegun_stops config secret ending s t f0 f1 k0 k1 refused begun is = marked_stops config secret ending s t refused is begun.mark f0 f1 begun.read k1 begun.why
