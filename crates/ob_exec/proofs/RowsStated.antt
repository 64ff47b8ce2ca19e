-- What is held, and how it ends, doesn't hang on where the rows lie.
use Rattle.ob_exec.proofs.Words.{Hash, inl, inr, MayHold, None, Option, PadPassed, Plan, Public, Seen, Selected, selection, Small, Some, stated, ℕ}
use Rattle.ob_base.specs.declared.refusal.Refusal.TheVariants.{NotConsecutive, Overflow}
use Rattle.ob_sql.specs.declared.stmt.SelectRows.{SelectRows}
use Rattle.ob_select.specs.declared.selecting.Selected.TheVariants.{Rows, Refused}
use Rattle.ob_select.specs.Selecting.{EndsSelected, EndsPadded, IsCountOf, IsPlanOf}

module _ (p : Public) (select : SelectRows) (region ending : ℕ) where
  plan_stated : (k : ℕ) (plan : Plan) → IsPlanOf (stated p select region ending) k plan → IsPlanOf (selection p select) k plan
  plan_stated k plan is = record { some = is.some; consecutive = is.consecutive; chosen = is.chosen }

  count_stated : (k : ℕ) → IsCountOf (stated p select region ending) k → IsCountOf (selection p select) k
  count_stated k is = record { unpadded = is.unpadded; most = is.most }

  padded_stated : (now : Seen) → EndsPadded (stated p select region ending) now → EndsPadded (selection p select) now
  padded_stated now is = record { padded = is.padded; nothing = is.nothing }

  pub may_stated : (k : Option ℕ) (plan second : Option Plan) → MayHold (stated p select region ending) k plan second → MayHold (selection p select) k plan second
  may_stated None None None may = tt
  may_stated None None (Some second) may = absurd may
  may_stated None (Some plan) second may = absurd may
  may_stated (Some k) None None may = (count_stated k may.0, may.1)
  may_stated (Some k) None (Some second) may = absurd may
  may_stated (Some k) (Some plan) None may = (count_stated k may.0, plan_stated k plan may.1)
  may_stated (Some k) (Some Hash) (Some Small) may = (count_stated k may.0, plan_stated k Hash may.1, may.2)
  may_stated (Some k) (Some plan) (Some second) may = absurd may

  pub ends_stated : (answer : Selected) (now : Seen) → EndsSelected (stated p select region ending) answer now → EndsSelected (selection p select) answer now
  ends_stated (Rows k) now (inl is) = inl is
  ends_stated (Rows k) now (inr is) = inr (padded_stated now is)
  ends_stated (Refused PadPassed) now is = padded_stated now is
  ends_stated (Refused NotConsecutive) now is = record { k = is.k; some = is.some; count = is.count; forced = is.forced; plan = is.plan; end = is.end }
  ends_stated (Refused (Overflow i)) now is = record { forced = is.forced; plan = is.plan; second = is.second; end = is.end }
  ends_stated (Refused r) now is = absurd is
