-- What was asked of a store by a statement on an index, from what was seen of it.
use Rattle.std.proofs.Common.{◌≡◌, ◌+◌, ◌-◌, ℕ, List, [], ◌++◌, length, Result, Ok, Err, append-nil, sym, ◌∙◌, ap, arith}
use Rattle.std.proofs.lemmas.List.{length-append}
use Rattle.ob_base.specs.declared.access.Access.{Access}
use Rattle.ob_base.specs.declared.config.Public.{Public}
use Rattle.ob_oram.specs.declared.fault.OramErr.{OramErr}
use Rattle.ob_oram.specs.declared.index.Index.{Index}
use Rattle.ob_oram.specs.declared.op.Got.{Got}
use Rattle.ob_oram.specs.Scripts.{access_script}
use Rattle.ob_script.specs.Script.{script}
use Rattle.ob_sql.specs.declared.stmt.Stmt.{Stmt}
use Rattle.ob_sql.specs.Skeleton.{skeleton}
use Rattle.ob_vault.specs.State.{World}
use Rattle.ob_keyed.specs.Asking.{IsKeyed}
use Rattle.ob_keyed.specs.Seeing.{KeyedCut, KeyedRan, RanAs, ShowsScript, seen_by, seen_cut}
use Rattle.ob_keyed.specs.Serving.{Asked}
use Rattle.ob_keyed.proofs.Seen.{shows_script}

module _ (p : Public) (m : ℕ) (stmt : Stmt) (index left : Index) (leaf : ℕ) (old new : World) (on : IsKeyed p m stmt index) where
  abbrev n : ℕ
  n = length new.store.asked - length old.store.asked

  -- a first part of the script
  part : (done rest : List Access) → done ++ rest ≡ access_script index leaf → new.store.asked ≡ old.store.asked ++ done → ShowsScript p m stmt index leaf → RanAs p m stmt (seen_cut p.stash leaf n) old.store new.store
  part done rest split is shows =
      let sum : length new.store.asked ≡ length old.store.asked + length done = ap (λ (xs : List Access). length xs) is ∙ length-append old.store.asked done in
      let count : n ≡ length done = omega (arith, sum) in
      let most : length (access_script index leaf) ≡ length done + length rest = ap (λ (xs : List Access). length xs) (sym split) ∙ length-append done rest in
      record {
        asked = is ∙ ap (λ (xs : List Access). old.store.asked ++ xs) (sym (ap (λ (k : ℕ). script p (skeleton stmt) (seen_cut p.stash leaf k)) count ∙ shows.cut done rest split));
        lawful = shows.lawful_cut n (omega (arith, count, most));
      }

  ran : (result : Result Got OramErr) → Asked index left leaf result old new → RanAs p m stmt (seen_by p.stash leaf result n) old.store new.store
  ran (Ok got) asked =
      let shows = shows_script p m stmt index on leaf asked.below in
      record {
        asked = asked.ok.did.asked ∙ ap (λ (xs : List Access). old.store.asked ++ xs) (sym shows.whole);
        lawful = shows.lawful;
      }
  ran (Err e) asked = part asked.err.began.done asked.err.began.rest asked.err.began.split asked.err.began.asked (shows_script p m stmt index on leaf asked.below)

  cut : (got : Got) → Asked index left leaf (Ok got) old new → RanAs p m stmt (seen_cut p.stash leaf n) old.store new.store
  cut got asked = part (access_script index leaf) [] (append-nil (access_script index leaf)) asked.ok.did.asked (shows_script p m stmt index on leaf asked.below)

pub keyed_ran : KeyedRan
keyed_ran p m stmt index left leaf result old new on asked = ran p m stmt index left leaf old new on result asked

pub keyed_cut : KeyedCut
keyed_cut p m stmt index left leaf got old new on asked = cut p m stmt index left leaf old new on got asked
