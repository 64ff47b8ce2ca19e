-- A changed block that was read was read among the accesses that a run was to ask.
use Rattle.std.proofs.Common.{◌≡◌, ◌⊎◌, inl, inr, ℕ, List, [], ◌++◌, Option, None, Some, Ok, Err, Result, refl, sym, ◌∙◌, ap, subst, append_assoc}
use Rattle.std.proofs.lemmas.List.{append-nil}
use Rattle.ob_base.specs.declared.access.Access.{Access}
use Rattle.ob_store.specs.State.{FalseRead, StoreState}
use Rattle.ob_store.specs.Runs.{Began, Later}
use Rattle.ob_vault.specs.State.{World}
use Rattle.ob_vault.specs.Calls.{Went}
use Rattle.ob_vault.specs.Tied.{Untampered, EndsAt, ReadsIn}
use Rattle.ob_vault.proofs.WorldSteps.{calm_none, reads_on}
use Rattle.ob_flat.specs.declared.fault.OpErr.{OpErr}
use Rattle.ob_flat.specs.declared.fault.OpErr.TheVariants as OpErrs
use Rattle.ob_flat.specs.Passes.{PassCause, PassCut}
use Rattle.ob_flat.specs.Words.{PassRan}

-- ---- a lie that was told by now was read by now
pub calm_reads : (old new : World) (lie : FalseRead) → (Untampered old → Untampered new) → old.store.lie ≡ None → new.store.lie ≡ Some lie → ReadsIn lie new.store.asked
calm_reads old new lie calm none told = (calm (calm_none old none)).within lie told

pub ends_reads : {q x : ℕ} (old new : World) (lie : FalseRead) → (Untampered old → Untampered new ⊎ EndsAt q x new) → old.store.lie ≡ None → new.store.lie ≡ Some lie → ReadsIn lie new.store.asked
ends_reads old new lie calm none told = elim (calm (calm_none old none)) [
  | inl calm ↦ calm.within lie told
  | inr ends ↦ let same : ends.lie ≡ lie = cc (ends.told, told) in subst (λ (l : FalseRead). ReadsIn l new.store.asked) same (record { rest = []; is = sym ends.asked })
]

pub cut_reads : (e : OpErr) (old new : World) (lie : FalseRead) → PassCause e old new → old.store.lie ≡ None → new.store.lie ≡ Some lie → ReadsIn lie new.store.asked
cut_reads (OpErrs.Tampered q x) old new lie cause none told = ends_reads old new lie cause.2 none told
cut_reads other old new lie cause none told = calm_reads old new lie cause.1 none told

-- ---- among the accesses that a run was to ask
pub lie_before : (a b : StoreState) (lie : FalseRead) → Later a b → b.lie ≡ Some lie → (a.lie ≡ None) ⊎ (a.lie ≡ Some lie)
lie_before a b lie later told = go a.lie refl
  where
    go : (o : Option FalseRead) → a.lie ≡ o → (a.lie ≡ None) ⊎ (a.lie ≡ Some lie)
    go None is = inl is
    go (Some first) is = let same : first ≡ lie = cc (later.lie first is, told) in inr (is ∙ ap (λ (l : FalseRead). Some l) same)

began_in : (x more : List Access) (a b : World) (lie : FalseRead) → Began x a.store b.store → ReadsIn lie b.store.asked → ReadsIn lie (a.store.asked ++ (x ++ more))
began_in x more a b lie began reads =
    reads_on lie b.store.asked (began.rest ++ more) (a.store.asked ++ (x ++ more))
    (ap (λ (l : List Access). a.store.asked ++ l) (ap (λ (l : List Access). l ++ more) (sym began.split) ∙ append_assoc began.done began.rest more)
    ∙ sym (append_assoc a.store.asked began.done (began.rest ++ more)) ∙ ap (λ (l : List Access). l ++ (began.rest ++ more)) (sym began.asked)) reads

pub cut_in : {some : ℕ → Type 0} (e : OpErr) (x more : List Access) (a b : World) (lie : FalseRead) → PassCut e x some a b → a.store.lie ≡ None → b.store.lie ≡ Some lie → ReadsIn lie (a.store.asked ++ (x ++ more))
cut_in e x more a b lie cut none told = began_in x more a b lie cut.began (cut_reads e a b lie cut.cause none told)

pub went_in : {some : ℕ → Type 0} (x more : List Access) (a b : World) (lie : FalseRead) → Went x some a b → a.store.lie ≡ None → b.store.lie ≡ Some lie → ReadsIn lie (a.store.asked ++ (x ++ more))
went_in x more a b lie went none told =
    began_in x more a b lie (record { done = x; rest = []; split = append-nil x; asked = went.did.asked }) (calm_reads a b lie went.calm none told)

pub ran_in : {T : Type 0} {some : ℕ → Type 0} (result : Result T OpErr) (x more : List Access) (a b : World) (lie : FalseRead) → PassRan x some result a b → a.store.lie ≡ None → b.store.lie ≡ Some lie
    → ReadsIn lie (a.store.asked ++ (x ++ more))
ran_in (Ok v) x more a b lie ran none told = went_in x more a b lie ran.ok none told
ran_in (Err e) x more a b lie ran none told = cut_in e x more a b lie ran.err none told
