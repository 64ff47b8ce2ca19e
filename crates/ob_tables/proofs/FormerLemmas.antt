-- What becomes of the region in which a table lay before it was changed.
use Rattle.ob_tables.proofs.Words.{Access, ap, append-nil, behind_run, Bool, drop_script, false, Former, former_of, if◌then◌else◌, List, None, Option, Public, refl, Region, Some, StoreState, subst, sym, true, ℕ, [], ◌++◌, ◌∙◌, ◌≡◌}
use Rattle.ob_mutate.specs.declared.settling.Former.TheVariants.{Discard, Keep}
use Rattle.ob_mutate.specs.Mutating.{StaysFormer, StaysStored, former_script}
use Rattle.ob_store.specs.Calls.{ChangesNothing}

-- what is asked for it is what follows the change
pub former_is : (p : Public) (region : ℕ) → former_script (former_of p) region ≡ behind_run p (Some region)
former_is p region = go p.save
  where
    go : (saves : Bool) → former_script (if saves then Keep else Discard) region ≡ (if saves then [] else drop_script (Some region))
    go true = refl
    go false = refl

-- nothing, where no region is left
pub none_behind : (p : Public) → behind_run p None ≡ []
none_behind p = go p.save
  where
    go : (saves : Bool) → (if saves then [] else drop_script None) ≡ []
    go true = refl
    go false = refl

pub alone_behind : (p : Public) (part : List Access) → part ++ behind_run p None ≡ part
alone_behind p part = ap (λ (l : List Access). part ++ l) (none_behind p) ∙ append-nil part

-- it stays in the store, where tables are saved
pub left_stays : (saves : Bool) (region : ℕ) (s s1 t : StoreState) (o : Option ℕ) (q : ℕ) (live : ℕ → Option Region) → o ≡ Some region → ChangesNothing s s1 → StaysFormer (if saves then Keep else Discard) region s1 t
    → live region ≡ None → (if saves then o else None) ≡ Some q → StaysStored q s t × (live q ≡ None)
left_stays true region s s1 t o q live found rests stays gone is =
    let same : region ≡ q = cc (found, is) in (
      subst (λ (n : ℕ). StaysStored n s t) same
          (record {
            live = stays.live ∙ rests.keeps.live region;
            last = λ x. stays.last x ∙ rests.keeps.last region x;
            kept = stays.kept ∙ rests.keeps.kept region;
          }),
      ap live (sym same) ∙ gone,
    )
left_stays false region s s1 t o q live found rests stays gone is = absurd (cc is)

-- and what is kept of it stays
pub kept_former : (saves : Bool) (region : ℕ) (s s1 t : StoreState) (q : ℕ) → saves ≡ true → q ≡ region → ChangesNothing s s1 → StaysFormer (if saves then Keep else Discard) region s1 t → t.kept q ≡ s.kept q
kept_former true region s s1 t q save same rests stays =
    subst (λ (n : ℕ). t.kept n ≡ s.kept n) (sym same) (stays.kept ∙ rests.keeps.kept region)
kept_former false region s s1 t q save same rests stays = absurd (cc save)
