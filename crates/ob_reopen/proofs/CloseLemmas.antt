-- A closing is made, and then written.
use Rattle.std.proofs.Common.{◌≡◌, ℕ, ◌+◌, ◌-◌, ◌<◌, ◌≤◌, ◌^◌, IsTrue, List, ◌++◌, length, Some, Ok, Err, sym, ◌∙◌, ap, subst, arith}
use Rattle.ob_base.specs.declared.access.Access.{Access}
use Rattle.ob_base.specs.Accesses.{makes, make_at, write_at}
use Rattle.ob_base.specs.Lists.{each}
use Rattle.ob_base.proofs.AccessLemmas.{makes_few}
use Rattle.ob_store.specs.Calls.{KeepsLive}
use Rattle.ob_vault.specs.declared.fault.VaultErr.{VaultErr}
use Rattle.ob_vault.specs.declared.fault.VaultErr.TheVariants as VaultErrs
use Rattle.ob_vault.specs.declared.region.Order.TheVariants.{Round}
use Rattle.ob_vault.specs.State.{Start, World, earlier}
use Rattle.ob_vault.specs.Numbers.{spent}
use Rattle.ob_vault.specs.Tied.{Ready}
use Rattle.ob_vault.specs.Calls.{Went, CutShort, one}
use Rattle.ob_vault.specs.VaultCalls.{MakesRegion, Forgets}
use Rattle.ob_vault.proofs.Runs.{went_join, cut_after, cut_more, tells_went, seals_join}
use Rattle.ob_reopen.specs.declared.closing.Closing.{Closing}
use Rattle.ob_reopen.specs.declared.listed.Listed.{Listed}
use Rattle.ob_reopen.specs.declared.fault.CloseErr.{CloseErr}
use Rattle.ob_reopen.specs.declared.fault.CloseErr.TheVariants as CloseErrs
use Rattle.ob_reopen.specs.Limits.{IsCatalogue}
use Rattle.ob_reopen.specs.Closings.{IsClosing, region_of}
use Rattle.ob_reopen.specs.Writings.{FillsClosing, WritesClosing, next_closing, close_error, vault_error}
use Rattle.ob_reopen.proofs.WriteLemmas.{count_made, keeps_rows, same_error, cut_forgot}

-- ---- the next region's number is far from the last one
earlier_region : (s : Start) → s.region ≤ earlier s
unfolding earlier
earlier_region s = omega arith

pub next_few : (w : World) → Ready w → spent w < 2 ^ 63 + 2 ^ 60 → w.vault.next < 2 ^ 64 - 1
next_few w ready few = omega (arith, ready.tied.next, makes_few w.store.asked, earlier_region w.vault.start, few)

module _ (pack : ℕ) (listed : List Listed) (a b : World) where
  abbrev making : List Access
  making = make_at a.vault.next (length listed + 1) 1024

  abbrev filling : List Access
  filling = each (length listed + 1) (write_at a.vault.next)

  -- it was not made
  pub unmade : (e : VaultErr) (r : CloseErr) → r ≡ close_error e → MakesRegion (length listed + 1) 1024 Round (Err e) a b → WritesClosing pack listed (Err r) a b
  unmade e r is makes =
      let same : vault_error r ≡ e = ap vault_error is ∙ same_error e makes.never in
      record {
        ok = tt;
        err = subst (λ (d : VaultErr). CutShort d (making ++ filling) (one a.vault.next) a b) (sym same) (cut_more (one a.vault.next) a b e making filling makes.err);
        memory = λ memory. makes.err.began;
        value = tt;
        gone = makes.gone;
        lives = tt;
        seals = λ good fine. makes.seals good;
        told = tt;
      }

  module _ (g : ℕ) (ready : Ready a) (makes : MakesRegion (length listed + 1) 1024 Round (Ok g) a b) where
    -- it was written
    module _ {T : Type 0} (value : T) (c : World) (number : ℕ) (numbered : number ≡ c.vault.revs.number g 0) (fills : FillsClosing g listed (Ok value) b c)
        (keeps : IsTrue c.store.tells → c.store.live a.vault.next ≡ Some (record { blocks = length listed + 1; len = 1056 }) → KeepsLive a.vault.next (record { blocks = length listed + 1; len = 1056 }) c.store) where
      filled : FillsClosing a.vault.next listed (Ok value) b c
      filled = subst (λ (q : ℕ). FillsClosing q listed (Ok value) b c) makes.number fills

      counted : b.vault.count ≡ a.vault.count
      counted = count_made a.vault.next (length listed + 1) 1024 (one a.vault.next) a b ready makes.ok

      went : Went (making ++ filling) (one a.vault.next) a c
      went = went_join (one a.vault.next) a b c making filling makes.ok filled.ok

      first : number ≡ a.vault.count + 1
      first = omega (arith, numbered ∙ ap (λ (q : ℕ). c.vault.revs.number q 0) makes.number, filled.numbers 0 (omega arith), counted)

      is_next : ◌≡◌ {A = Closing} (record { region = g; blocks = length listed + 1; number = number; pack = pack }) (next_closing pack listed a)
      is_next i = record { region = makes.number i; blocks = length listed + 1; number = first i; pack = pack }

      rests : IsTrue a.store.tells → IsCatalogue (next_closing pack listed a) listed → IsClosing c.vault.keys (next_closing pack listed a) listed c.store.kept
      rests tells catalogue =
          let next = next_closing pack listed a in
          let tells_b = tells_went (one a.vault.next) making a b makes.ok tells in
          let tells_c = tells_went (one a.vault.next) filling b c filled.ok tells_b in
          let live = (went.lasts.ready.tied.live a.vault.next (region_of (length listed + 1)) filled.lives.live).live in
          record {
            catalogue = catalogue;
            rows = keeps_rows next listed c catalogue live (keeps tells_c live)
                (λ p below. filled.numbers p below ∙ ap (λ (n : ℕ). n + 1 + p) counted)
                (λ p below. filled.told tells_b p below);
          }

      pub writes_all : WritesClosing pack listed (Ok (record { region = g; blocks = length listed + 1; number = number; pack = pack })) a c
      writes_all = record {
        ok = went;
        err = tt;
        memory = λ memory. absurd (cc memory);
        value = is_next;
        gone = tt;
        lives = filled.lives;
        seals = λ good fine. seals_join good a b c makes.ok.lasts.later (makes.seals good) (filled.seals good fine);
        told = λ tells catalogue.
            subst (λ (x : Closing). IsClosing c.vault.keys x listed c.store.kept) (sym is_next) (rests tells (subst (λ (x : Closing). IsCatalogue x listed) is_next catalogue));
      }

    -- it was not
    module _ {T : Type 0} (e : VaultErr) (r : CloseErr) (is : r ≡ close_error e) (c d : World) (fills : FillsClosing {T = T} g listed (Err e) b c) (forgets : Forgets g c d) (store : d.store ≡ c.store) where
      cut_off : FillsClosing {T = T} a.vault.next listed (Err VaultErrs.Failed) b c
      cut_off = subst (λ (x : VaultErr). FillsClosing {T = T} a.vault.next listed (Err x) b c) fills.never (subst (λ (q : ℕ). FillsClosing {T = T} q listed (Err e) b c) makes.number fills)

      dropped : Forgets a.vault.next c d
      dropped = subst (λ (q : ℕ). Forgets q c d) makes.number forgets

      failed : r ≡ CloseErrs.Failed
      failed = is ∙ ap close_error fills.never

      pub unwritten : WritesClosing pack listed (Err r) a d
      unwritten = record {
        ok = tt;
        err = subst (λ (x : CloseErr). CutShort (vault_error x) (making ++ filling) (one a.vault.next) a d) (sym failed)
            (cut_forgot (making ++ filling) (one a.vault.next) a c d (cut_after (one a.vault.next) a b c VaultErrs.Failed making filling makes.ok cut_off.err)
            (dropped.went cut_off.err.lasts.ready) store);
        memory = λ memory. absurd (cc (failed, memory));
        value = tt;
        gone = dropped.gone;
        lives = tt;
        seals = λ good fine.
            seals_join good a b d makes.ok.lasts.later (makes.seals good)
            (seals_join good b c d cut_off.err.lasts.later (cut_off.seals good fine) (dropped.seals good));
        told = tt;
      }
