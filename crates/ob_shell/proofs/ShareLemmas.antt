-- What the engine asks of a statement is a first part of all that is asked of it.
use Rattle.ob_shell.proofs.Words.{Access, AfterCount, Agrees, ap, append-nil, append_assoc, asked_of, Begins, Bool, Cut, Draws, early_refusal, End, false, Heading, held_headings, if◌then◌else◌, is_late, is_some, Batched, FalseRead, limits_of, List, Machine, None, Option, Public, public_of, Read, refl, Refusal, refusal_now, Represents, RevState, script, Seen, Skeleton, skeleton, Some, Static, Stmt, subst, suc, sym, Tables, take, true, Whole, whole_script, zero, ℕ, [], ◌++◌, ◌∙◌, ◌∷◌, ◌≡◌}
use Rattle.ob_exec.proofs.ChangedScripts.{changes_flat, unsaved_whole, whole_saved}
use Rattle.ob_mean.specs.Verdict.{accessed, ended, seen, seen_served}
use Rattle.ob_script.proofs.SavedParts.{whole_is}
use Rattle.ob_script.specs.Saved.{left_by, run_script, whole_run}
use Rattle.ob_script.specs.Script.{changes_tables, save_part, until_end}
use Rattle.ob_tables.proofs.TableLemmas.{tables_flat}
use Rattle.ob_vault.specs.Tied.{ReadsIn}

-- ---- first parts
take_longer : (n : ℕ) (xs more : List Access) → Begins (take n xs) (take n (xs ++ more))
take_longer zero xs more = record { rest = []; joined = refl }
take_longer (suc n) [] more = record { rest = take (suc n) more; joined = refl }
take_longer (suc n) (x ∷ xs) more = let deep = take_longer n xs more in record { rest = deep.rest; joined = ap (λ (l : List Access). x ∷ l) deep.joined }

until_longer : (end : End) (xs more : List Access) → Begins (until_end end xs) (until_end end (xs ++ more))
until_longer Static xs more = record { rest = []; joined = refl }
until_longer Whole xs more = record { rest = more; joined = refl }
until_longer AfterCount xs more = record { rest = more; joined = refl }
until_longer Batched xs more = record { rest = []; joined = refl }
until_longer (Cut n) xs more = take_longer n xs more

-- a read in a first part is one in all
reads_longer : (lie : FalseRead) (part whole : List Access) → Begins part whole → ReadsIn lie part → ReadsIn lie whole
reads_longer lie part whole b reads = record {
  rest = reads.rest ++ b.rest;
  is = sym (append_assoc lie.before (Read lie.region lie.place ∷ reads.rest) b.rest) ∙ ap (λ (l : List Access). l ++ b.rest) reads.is ∙ sym b.joined;
}

begins_behind : (before part whole : List Access) → Begins part whole → Begins (before ++ part) (before ++ whole)
begins_behind before part whole b = record { rest = b.rest; joined = ap (λ (l : List Access). before ++ l) b.joined ∙ sym (append_assoc before part b.rest) }

-- ---- a statement by its meaning
module _ {R : Type 0} (state : R → RevState) (m : Machine R) (agrees : Agrees state m.engine m.store) (d : Draws) (tables : Tables) (held : Represents state m.engine m.store tables) (stmt : Stmt) where
  abbrev p : Public
  p = public_of m.engine

  abbrev sk : Skeleton
  sk = skeleton stmt

  abbrev meant : Seen
  meant = seen d p (asked_of m) tables stmt

  abbrev IsShare : Type 0
  IsShare = Begins (run_script p sk meant) (script p sk meant)

  share_by : (more : List Access) → whole_script p sk meant ≡ whole_run p sk meant ++ more → IsShare
  share_by more is = subst (λ (l : List Access). Begins (run_script p sk meant) (until_end meant.end l)) (sym is) (until_longer meant.end (whole_run p sk meant) more)

  share_all : whole_run p sk meant ≡ whole_script p sk meant → IsShare
  share_all same = share_by [] (sym same ∙ sym (append-nil (whole_run p sk meant)))

  -- nothing is asked
  share_refused : (r : Refusal) → refusal_now p (asked_of m) stmt ≡ Some r → IsShare
  share_refused r is =
      let early = ap (λ (hs : List Heading). early_refusal (is_late (asked_of m)) (limits_of p) hs stmt) (held_headings _ _ _ tables _ held.held) ∙ is in
      let none : meant ≡ ended Static = ap (λ (o : Option Refusal). if is_some o then ended Static else seen_served d (accessed tables stmt) p tables stmt) early in
      subst (λ (x : Seen). Begins (run_script p sk x) (script p sk x)) (sym none) (record { rest = []; joined = refl })

  -- the tables are saved after it
  share_saved : p.save ≡ true → changes_tables sk ≡ true → refusal_now p (asked_of m) stmt ≡ None → IsShare
  share_saved saves changes none =
      let kept = agrees.saved saves in
      let flat = changes_flat p (tables_flat (agrees.kept kept) agrees.tables) (is_late (asked_of m)) kept stmt changes none in
      share_by (save_part p sk (left_by p sk)) (whole_saved p sk meant saves flat changes)

  share : IsShare
  share = by_save p.save refl
    where
      by_early : (o : Option Refusal) → refusal_now p (asked_of m) stmt ≡ o → p.save ≡ true → changes_tables sk ≡ true → IsShare
      by_early None none saves changes = share_saved saves changes none
      by_early (Some r) is saves changes = share_refused r is

      by_change : (b : Bool) → changes_tables sk ≡ b → p.save ≡ true → IsShare
      by_change true changes saves = by_early (refusal_now p (asked_of m) stmt) refl saves changes
      by_change false none saves = share_all (unsaved_whole p sk meant none)

      by_save : (b : Bool) → p.save ≡ b → IsShare
      by_save true saves = by_change (changes_tables sk) refl saves
      by_save false not = share_all (whole_is p sk meant not)

  -- a read of it is one of all that is asked
  pub share_reads : (lie : FalseRead) → ReadsIn lie (m.store.asked ++ run_script p sk meant) → ReadsIn lie (m.store.asked ++ script p sk meant)
  share_reads lie reads = reads_longer lie (m.store.asked ++ run_script p sk meant) (m.store.asked ++ script p sk meant) (begins_behind m.store.asked (run_script p sk meant) (script p sk meant) share) reads
