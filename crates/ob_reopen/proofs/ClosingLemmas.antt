-- A closing is opened, and then read.
use Rattle.std.proofs.Common.{◌≡◌, ◌⊎◌, inl, inr, ℕ, IsTrue, List, None, Result, Ok, Err, sym, ◌∙◌, ap, subst, arith}
use Rattle.std.specs.Prelude.{Bool}
use Rattle.ob_base.specs.Accesses.{read_at}
use Rattle.ob_base.specs.Lists.{each}
use Rattle.ob_vault.specs.declared.fault.VaultErr.{VaultErr}
use Rattle.ob_vault.specs.State.{Start, World}
use Rattle.ob_vault.specs.Calls.{Seals, none, one}
use Rattle.ob_vault.specs.Words.{IsHonest}
use Rattle.ob_vault.specs.Resuming.{KeptSealed, ResumesRegion, Stays, open_at}
use Rattle.ob_reopen.specs.declared.closing.Closing.{Closing}
use Rattle.ob_reopen.specs.declared.fault.OpenErr.{OpenErr}
use Rattle.ob_reopen.specs.declared.fault.OpenErr.TheVariants.{Failed, NoMemory}
use Rattle.ob_reopen.specs.declared.listed.Listed.{Listed}
use Rattle.ob_reopen.specs.Limits.{IsMarked}
use Rattle.ob_reopen.specs.Closings.{KeepsRows, closing_region}
use Rattle.ob_reopen.specs.Openings.{open_error, OpensAll, Follows, IsNumbered, HoldsRows, ReadsRows, ReadsBlocks, ReadsClosing}
use Rattle.ob_reopen.proofs.Runs.{opens_region, opens_shut, opens_join, opens_after, opens_more, all_wider, part_wider}
use Rattle.ob_reopen.proofs.OpenLemmas.{holds_kept, awaits}

-- its region stays shut
pub reads_shut : {T : Type 0} (closing : Closing) (a b : World) (e : VaultErr) → ResumesRegion {T = T} closing.region (closing_region closing) closing.number (Err e) a b → ReadsClosing closing (Err (open_error e)) a b
reads_shut {T} closing a b e resumes =
    let first = open_at closing.region closing.blocks 1024 in
    let rest = each closing.blocks (read_at closing.region) in
    let either : (open_error e ≡ Failed) ⊎ (open_error e ≡ NoMemory) = elim resumes.never [
      | inl failed ↦ inl (ap open_error failed)
      | inr memory ↦ inr (ap open_error memory)
    ] in
    record {
      opens = record {
        ok = tt;
        err = opens_more (one closing.region) a b (open_error e) first rest (opens_shut {T = T} closing.region closing.number (closing_region closing) a b e resumes);
      };
      never = elim either [ inl failed ↦ inl failed | inr memory ↦ inr (inl memory) ];
      memory = λ is. resumes.err.began;
      catalogue = tt;
      lives = tt;
      awaits = tt;
      kept = resumes.kept;
      numbered = inr resumes.lie;
      seals = λ good kept. resumes.seals good kept;
      told = λ honest rows kept. record { spelled = tt; read = λ listed catalogue are. either };
    }

-- it is open
module _ {T : Type 0} (value : T) (closing : Closing) (marked : IsMarked closing) (a b c : World) (resumes : ResumesRegion closing.region (closing_region closing) closing.number (Ok value) a b)
    (follows : Follows closing a) (gone : (q : ℕ) → a.store.live q ≡ None) where
  first : OpensAll (open_at closing.region closing.blocks 1024) (one closing.region) a b
  first = opens_region closing.region closing.number (closing_region closing) a b value resumes

  within : (q : ℕ) → none q → one closing.region q
  within q none_is = absurd none_is

  numbered_on : Stays none b c → IsNumbered closing c
  numbered_on stays = record {
    here = λ x below. stays.given closing.region x (λ nowhere. nowhere) ∙ resumes.ok.gives.here x below;
    others = λ q x off. stays.given q x (λ nowhere. nowhere) ∙ resumes.ok.gives.others q x off ∙ ap (λ (s : Start). s.given q x) follows.start;
  }

  sealed_on : ((good : ℕ → List ℕ → Bool) → Seals good b c) → (good : ℕ → List ℕ → Bool) → KeptSealed good closing.region closing.number a → Seals good a c
  sealed_on seals good kept = record {
    seals = λ scope few tells all. (seals good).seals scope (omega (arith, few, resumes.stays.faults)) (subst IsTrue (sym resumes.stays.tells) tells) ((resumes.seals good kept).seals scope few tells all);
  }

  told_on : (result : Result (List Listed) OpenErr) → (IsHonest b c → (rows : List (List ℕ)) → HoldsRows closing rows b → ReadsRows closing rows result)
      → IsHonest a c → (rows : List (List ℕ)) → KeepsRows a.vault.keys closing rows a.store.kept → ReadsRows closing rows result
  told_on result told honest rows kept =
      told (record { tells = subst IsTrue (sym resumes.stays.tells) honest.tells; nolie = honest.nolie }) rows
      (holds_kept closing marked a b resumes.ok rows resumes.stays.keys honest.tells kept)

  pub reads_closing : (result : Result (List Listed) OpenErr) → ReadsBlocks closing result b c → ReadsClosing closing result a c
  reads_closing (Ok listed) reads =
      let rest = each closing.blocks (read_at closing.region) in
      record {
        opens = record {
          ok = opens_join (one closing.region) a b c (open_at closing.region closing.blocks 1024) rest first (all_wider none b c (one closing.region) within rest reads.opens.ok);
          err = tt;
        };
        never = tt;
        memory = λ is. absurd (cc is);
        catalogue = reads.catalogue;
        lives = record { live = reads.opens.ok.stays.apart.live closing.region (λ nowhere. nowhere) ∙ resumes.ok.lives.live };
        awaits = awaits closing marked a b resumes.ok c follows gone first reads.opens.ok;
        kept = λ q. reads.opens.ok.stays.apart.rests q (λ nowhere. nowhere) ∙ resumes.kept q;
        numbered = numbered_on reads.opens.ok.stays;
        seals = sealed_on reads.seals.seals;
        told = told_on (Ok listed) reads.told;
      }
  reads_closing (Err e) reads =
      let rest = each closing.blocks (read_at closing.region) in
      record {
        opens = record {
          ok = tt;
          err = opens_after (one closing.region) a b c e (open_at closing.region closing.blocks 1024) rest first (part_wider none b c (one closing.region) within e rest reads.opens.err);
        };
        never = elim reads.never [ inl failed ↦ inl failed | inr there ↦ inr (inr there) ];
        memory = λ is. let same : e ≡ NoMemory = cc is in elim reads.never [
          | inl failed ↦ absurd (cc (same, failed))
          | inr there ↦ absurd (cc (same, there.is))
        ];
        catalogue = tt;
        lives = tt;
        awaits = tt;
        kept = λ q. reads.opens.err.stays.apart.rests q (λ nowhere. nowhere) ∙ resumes.kept q;
        numbered = inl (numbered_on reads.opens.err.stays);
        seals = sealed_on reads.seals.seals;
        told = told_on (Err e) reads.told;
      }
