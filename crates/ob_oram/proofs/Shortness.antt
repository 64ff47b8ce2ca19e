-- How an access of an index gives up.
use Rattle.std.proofs.Common.{◌≡◌, inl, inr, ◌+◌, ℕ, List, length, length-append, refl, sym, ◌∙◌, ap, subst, arith}
use Rattle.ob_base.specs.declared.access.Access.{Access}
use Rattle.ob_store.specs.Runs.{Began}
use Rattle.ob_vault.specs.State.{World}
use Rattle.ob_vault.specs.Calls.{Went, none, two}
use Rattle.ob_vault.proofs.Runs.{lasts_wider}
use Rattle.ob_flat.specs.declared.fault.OpErr.{OpErr}
use Rattle.ob_flat.specs.declared.fault.OpErr.TheVariants as OpErrs
use Rattle.ob_flat.specs.Passes.{PassCut}
use Rattle.ob_flat.proofs.Runs.{pass_more, pass_wider}
use Rattle.ob_oram.specs.declared.index.Index.{Index}
use Rattle.ob_oram.specs.declared.fault.OramErr.{OramErr}
use Rattle.ob_oram.specs.declared.fault.OramErr.TheVariants.{Failed, Tampered, StashFull}
use Rattle.ob_base.specs.Indexes.{path_blocks}
use Rattle.ob_oram.specs.Scripts.{read_script, write_script, access_script}
use Rattle.ob_oram.specs.Accessing.{Stops, StopsReading}
use Rattle.ob_oram.proofs.AccessRuns.{access_parts, cut_reads, length-reads, went_reads}
use Rattle.ob_oram.specs.Short.{AccessShort}

module _ (index left : Index) (leaf : ℕ) (old new : World) where
  -- a pass that gave up in its reads gave up in the access
  reading : (e : OpErr) → StopsReading e index left leaf old new → PassCut e (access_script index leaf) (two index.tree index.stash) old new
  reading e stops = subst (λ (x : List Access). PassCut e x (two index.tree index.stash) old new) (sym (access_parts index leaf))
      (pass_more _ old new e (read_script index leaf) (write_script index leaf)
      (pass_wider none old new (two index.tree index.stash) (λ q off. absurd off) e _ stops.cut))

  failed : PassCut OpErrs.Failed (access_script index leaf) (two index.tree index.stash) old new → AccessShort Failed index leaf old new
  failed cut = record { lasts = cut.lasts; began = cut.began; asks = cut.asks refl; cause = cut.cause; full = λ no. absurd (cc no); reads = λ other. absurd (other refl) }

  tampered : (q x : ℕ) → StopsReading (OpErrs.Tampered q x) index left leaf old new → AccessShort (Tampered q x) index leaf old new
  tampered q x stops =
      let cut = reading (OpErrs.Tampered q x) stops in
      record { lasts = cut.lasts; began = cut.began; asks = cut.asks refl; cause = cut.cause; full = λ no. absurd (cc no); reads = λ other. cut_reads index leaf (OpErrs.Tampered q x) none old new stops.cut }

  stash_full : Went (read_script index leaf) none old new → AccessShort StashFull index leaf old new
  stash_full went =
      let more : length new.store.asked ≡ length old.store.asked + (index.slots + path_blocks index.height) =
      ap (λ (l : List Access). length l) went.did.asked ∙ length-append old.store.asked (read_script index leaf) ∙ ap (λ (n : ℕ). length old.store.asked + n) (length-reads index leaf) in
      record {
        lasts = lasts_wider none old new (two index.tree index.stash) (λ q off. absurd off) went.lasts;
        began = subst (λ (x : List Access). Began x old.store new.store) (sym (access_parts index leaf)) (record { done = read_script index leaf; rest = write_script index leaf; split = refl; asked = went.did.asked });
        asks = omega (arith, more);
        cause = (went.did.faults, went.calm);
        full = λ is. more;
        reads = λ other. went_reads index leaf old new went;
      }

  pub access_short : (e : OramErr) → Stops e index left leaf old new → AccessShort e index leaf old new
  access_short Failed (inl stops) = failed (reading OpErrs.Failed stops)
  access_short Failed (inr stops) = failed stops.cut
  access_short (Tampered q x) stops = tampered q x stops.0
  access_short StashFull stops = stash_full stops.0
