-- The runs of a selection join, whatever the store answers.
use Rattle.std.proofs.Common.{◌≡◌, ◌⊎◌, inl, inr, ◌≤◌, ◌+◌, ◌*◌, ℕ, IsTrue, List, [], ◌∷◌, ◌++◌, Option, None, Some, Result, Ok, Err, length, refl, sym, ◌∙◌, ap, subst, arith, append-nil}
use Rattle.std.specs.Prelude.{IsSome}
use Rattle.std.specs.List.{list_all}
use Rattle.std.proofs.lemmas.Bool.{cases_eq}
use Rattle.ob_base.specs.declared.access.Access.{Access}
use Rattle.ob_base.specs.declared.config.Plan.{Plan}
use Rattle.ob_base.specs.declared.config.Plan.TheVariants.{Small, Large, Continuous, Hash}
use Rattle.ob_base.specs.Accesses.{makes}
use Rattle.ob_base.specs.Limits.{buffered_blocks}
use Rattle.ob_base.specs.Numbers.{blocks_for}
use Rattle.ob_base.specs.Schemas.{width}
use Rattle.ob_base.proofs.AccessLemmas.{makes-append}
use Rattle.ob_script.specs.Parts.{count_part, emission_part}
use Rattle.ob_base.specs.declared.config.Public.{Public}
use Rattle.ob_base.specs.declared.seen.Seen.{Seen}
use Rattle.ob_script.specs.Script.{after_count, behind_count, extent_of, plan_part, result_blocks}
use Rattle.ob_script.proofs.Makes.{makes-count_part, makes-small_part, makes-large_part, makes-continuous_part, makes-hash_part, makes-emission_part}
use Rattle.ob_vault.specs.State.{Start, World}
use Rattle.ob_vault.specs.Tied.{Ready}
use Rattle.ob_vault.specs.declared.region.Region.{Region}
use Rattle.ob_vault.specs.Calls.{Went, Lasts, none, one}
use Rattle.ob_vault.proofs.Runs.{went_wider}
use Rattle.ob_flat.specs.declared.fault.OpErr.{OpErr}
use Rattle.ob_flat.specs.Words.{PassRan, blocks_of}
use Rattle.ob_flat.proofs.Runs.{pass_wider}
use Rattle.ob_flat.proofs.WordLemmas.{ran_after}
use Rattle.ob_select.specs.Memory.{AtMake, BeforeResult, HasCounted, is_reading, starts_with_make, ends_with_make}
use Rattle.ob_select.specs.Selecting.{Selection, region_of, selection_script, from}
use Rattle.ob_select.specs.Results.{Planned, whole_part}

-- ---- regions
pub ran_wider : {T : Type 0} {some : ℕ → Type 0} (more : ℕ → Type 0) → ((x : ℕ) → some x → more x) → (r : Result T OpErr) (x : List Access) (a b : World) → PassRan x some r a b → PassRan x more r a b
ran_wider {T} {some} more within (Ok v) x a b ran = record { ok = went_wider some a b more within x ran.ok; err = tt }
ran_wider {T} {some} more within (Err e) x a b ran = record { ok = tt; err = pass_wider some a b more within e x ran.err }

pub none_from : (g x : ℕ) → none x → from g x
none_from g x is = absurd is

pub one_from : (g r x : ℕ) → g ≤ r → one r x → from g x
one_from g r x above is = omega (arith, above, is)

-- no region from the next number on is there
pub none_above : (w : World) → Ready w → (x : ℕ) → w.vault.next ≤ x → w.vault.revs.live x ≡ None
none_above w ready x above = go (w.vault.revs.live x) refl
  where
    go : (o : Option Region) → w.vault.revs.live x ≡ o → w.vault.revs.live x ≡ None
    go None is = is
    go (Some shape) is = absurd (omega (arith, ready.below x shape is, above))

-- nor after a run that wrote to none
pub none_still : (g : ℕ) (a b : World) → Lasts none a b → ((x : ℕ) → g ≤ x → a.vault.revs.live x ≡ None) → (x : ℕ) → g ≤ x → b.vault.revs.live x ≡ None
none_still g a b lasts was x above = lasts.apart.live x (λ is. is) ∙ was x above

-- nor after one that wrote to a region that is gone
pub none_again : (g r : ℕ) (a b : World) → Lasts (one r) a b → b.vault.revs.live r ≡ None → ((x : ℕ) → g ≤ x → a.vault.revs.live x ≡ None) → (x : ℕ) → g ≤ x → b.vault.revs.live x ≡ None
none_again g r a b lasts gone was x above = elim (cases_eq x r) [
  | inl same ↦ ap b.vault.revs.live same ∙ gone
  | inr other ↦ lasts.apart.live x other ∙ was x above
]

-- ---- the next region
pub next_after : {some : ℕ → Type 0} (a b : World) (x : List Access) → Ready a → Went x some a b → b.vault.next ≡ a.vault.next + makes x
next_after a b x ready went =
    omega (arith, ready.tied.next, went.lasts.ready.tied.next, ap (λ (s : Start). s.region) went.lasts.start, makes-append a.store.asked x, ap makes went.did.asked)

makes-plan : (r : Planned) (g : ℕ) (plan : Plan) → makes (plan_part r.selection.public plan r.taken g (extent_of (region_of r.selection))) ≡ 1
makes-plan r g Small =
    let q = r.selection in
    makes-small_part q.flat.region g (blocks_of q.public.pack q.flat) (blocks_for q.public.pack r.taken) (buffered_blocks q.public.pack q.public.buffer) (q.public.pack * width q.flat.schema)
makes-plan r g Large = let q = r.selection in makes-large_part q.flat.region g (blocks_of q.public.pack q.flat) (q.public.pack * width q.flat.schema)
makes-plan r g Continuous = let q = r.selection in makes-continuous_part q.flat.region g q.public.pack q.flat.capacity r.taken (q.public.pack * width q.flat.schema)
makes-plan r g Hash = let q = r.selection in makes-hash_part q.flat.region g q.public.pack q.flat.capacity r.taken q.public.depth (q.public.pack * width q.flat.schema)

pub makes-whole : (r : Planned) (g : ℕ) → makes (whole_part r g) ≡ 1
makes-whole r g =
    let n = result_blocks r.selection.public r.plan r.taken (extent_of (region_of r.selection)) in
    omega (arith, makes-append (plan_part r.selection.public r.plan r.taken g (extent_of (region_of r.selection))) (emission_part g n), makes-plan r g r.plan, makes-emission_part g n)

pub next_counted : (q : Selection) (a b : World) → Ready a → Went (count_part q.flat.region (blocks_of q.public.pack q.flat)) none a b → b.vault.next ≡ a.vault.next
next_counted q a b ready went = omega (arith, next_after a b _ ready went, makes-count_part q.flat.region (blocks_of q.public.pack q.flat))

pub next_made : (r : Planned) (a b : World) → Ready a → Went (whole_part r a.vault.next) (one a.vault.next) a b → b.vault.next ≡ a.vault.next + 1
next_made r a b ready went = omega (arith, next_after a b _ ready went, makes-whole r a.vault.next)

-- ---- the scripts
abbrev pub counts_of : Selection → List Access
counts_of q = count_part q.flat.region (blocks_of q.public.pack q.flat)

-- where results aren't padded
pub script_is : (q : Selection) (seen : Seen) (g : ℕ) → q.public.pad ≡ None → selection_script q seen g ≡ counts_of q ++ after_count q.public seen seen.k g (extent_of (region_of q)) []
script_is q seen g unpadded = ap (λ (pad : Option ℕ). counts_of q ++ behind_count pad q.public seen g (extent_of (region_of q)) []) unpadded

module _ (q : Selection) (old mid : World) (ready : Ready old) (count : Went (count_part q.flat.region (blocks_of q.public.pack q.flat)) none old mid) where
  -- after the count
  pub ran_counted : {T : Type 0} (result : Result T OpErr) (x : List Access) (new : World) → PassRan x (from old.vault.next) result mid new → PassRan (counts_of q ++ x) (from old.vault.next) result old new
  ran_counted result x new ran = ran_after result (counts_of q) x (went_wider none old mid (from old.vault.next) (none_from old.vault.next) (counts_of q) count) ran

  pub ran_first : {T : Type 0} (result : Result T OpErr) (r : Planned) (new : World) → PassRan (whole_part r mid.vault.next) (one mid.vault.next) result mid new
      → PassRan (counts_of q ++ (whole_part r old.vault.next ++ [])) (from old.vault.next) result old new
  ran_first result r new ran =
      let same = next_counted q old mid ready count in
      ran_counted result (whole_part r old.vault.next ++ []) new
      (subst (λ (x : List Access). PassRan x (from old.vault.next) result mid new) (sym (append-nil (whole_part r old.vault.next)))
      (subst (λ (n : ℕ). PassRan (whole_part r n) (from old.vault.next) result mid new) same
      (ran_wider (from old.vault.next) (λ x. one_from old.vault.next mid.vault.next x (omega (arith, same))) result (whole_part r mid.vault.next) mid new ran)))

  pub ran_second : {T : Type 0} (result : Result T OpErr) (r p : Planned) (late new : World) → Went (whole_part r mid.vault.next) (one mid.vault.next) mid late → PassRan (whole_part p late.vault.next) (one late.vault.next) result late new
      → PassRan (counts_of q ++ (whole_part r old.vault.next ++ (whole_part p (old.vault.next + 1) ++ []))) (from old.vault.next) result old new
  ran_second result r p late new went ran =
      let same = next_counted q old mid ready count in
      let next = next_made r mid late count.lasts.ready went in
      let after : late.vault.next ≡ old.vault.next + 1 = omega (arith, same, next) in
      let first : Went (whole_part r old.vault.next) (from old.vault.next) mid late
      = subst (λ (n : ℕ). Went (whole_part r n) (from old.vault.next) mid late) same
      (went_wider (one mid.vault.next) mid late (from old.vault.next) (λ x. one_from old.vault.next mid.vault.next x (omega (arith, same))) (whole_part r mid.vault.next) went) in
      let second : PassRan (whole_part p (old.vault.next + 1)) (from old.vault.next) result late new
      = subst (λ (n : ℕ). PassRan (whole_part p n) (from old.vault.next) result late new) after
      (ran_wider (from old.vault.next) (λ x. one_from old.vault.next late.vault.next x (omega (arith, after))) result (whole_part p late.vault.next) late new ran) in
      ran_counted result (whole_part r old.vault.next ++ (whole_part p (old.vault.next + 1) ++ [])) new
      (ran_after result (whole_part r old.vault.next) (whole_part p (old.vault.next + 1) ++ []) first
      (subst (λ (x : List Access). PassRan x (from old.vault.next) result late new) (sym (append-nil (whole_part p (old.vault.next + 1)))) second))

-- ---- where memory lacks
pub ends-more : (xs done : List Access) → IsTrue (ends_with_make done) → IsTrue (ends_with_make (xs ++ done))
ends-more [] done is = is
ends-more (x ∷ []) [] is = absurd (cc is)
ends-more (x ∷ []) (d ∷ done) is = is
ends-more (x ∷ y ∷ xs) done is = ends-more (y ∷ xs) done is

pub place_in : {Rooms Halts : Type 0} (p : Public) (seen : Seen) (xs done rest : List Access) → HasCounted p seen → (Rooms → (p.pad ≡ None) × IsSome seen.k)
    → IsTrue (ends_with_make done) ⊎ (Rooms × IsTrue (starts_with_make rest)) ⊎ (IsTrue (list_all is_reading rest) × Halts)
    → AtMake (xs ++ done) ⊎ BeforeResult p seen rest ⊎ (HasCounted p seen × IsTrue (list_all is_reading rest) × Halts)
place_in p seen xs done rest counted rooms place = elim place [
  | inl ends ↦ inl (inr (ends-more xs done ends))
  | inr other ↦ inr (elim other [
    | inl before ↦ let room = rooms before.0 in inl (room.0, room.1, before.1)
    | inr all ↦ inr (counted, all.0, all.1)
  ])
]

pub not_empty : (xs : List Access) → 1 ≤ length xs → xs ≡ [] → ⊥
not_empty [] some is = absurd (omega (arith, some))
not_empty (x ∷ xs) some is = cc is
