-- What the vault has no more once the store failed.
use Rattle.ob_tables.proofs.Words.{Agrees, ap, arith, cases_eq, End, Engine, inl, inr, Lasts, List, None, Ok, one, others_of, Public, RanStatement, Ready, Refusal, Refused, RevState, Skeleton, slice_get, Some, StoreState, sym, World, world_of, ℕ, ◌<◌, ◌∙◌, ◌≡◌}
use Rattle.ob_base.specs.declared.schema.Table.{Table}
use Rattle.ob_script.specs.Tables.{tables_then}
use Rattle.ob_vault.specs.State.{HasNoneFrom}
use Rattle.ob_vault.proofs.WorldSteps.{next_none}
use Rattle.ob_tables.specs.Agreeing.{opened_from}
use Rattle.ob_tables.proofs.TableLemmas.{beside_below, region_below}

-- a region beside the tables is one that was there before, where the tables and the closing are those of before
other_below : {R : Type 0} (state : R → RevState) (old : Engine R) (s : StoreState) (new : Engine R) (t : StoreState) → Agrees state old s → Agrees state new t
    → opened_from new ≡ opened_from old → new.public.tables ≡ old.public.tables → (q : ℕ) → others_of new.closing new.indexes.items q → q < old.vault.next
unfolding others_of
other_below state old s new t agrees after from tables q (inl closed) =
    beside_below old.public.pack old.public.tables (others_of old.closing old.indexes.items) q (world_of state old s) agrees.ready agrees.tables (inl (sym from ∙ closed))
other_below state old s new t agrees after from tables q (inr of) =
    let at = after.tables.stand of.place of.index of.get in
    let get : slice_get old.public.tables at.place ≡ Some at.table = ap (λ (ts : List Table). slice_get ts at.place) (sym tables) ∙ at.get in
    let has = agrees.tables.has at.place at.table get at.of.indexed in
    let was = agrees.tables.stand has.place has.index has.get in
    let below = beside_below old.public.pack old.public.tables (others_of old.closing old.indexes.items) has.index.stash (world_of state old s) agrees.ready agrees.tables was.beside in
    let stash = was.of.stash in
    let tree = was.of.tree in
    let here = has.tree in
    let now = at.of.stash in
    let last = of.stash in
    omega (arith, below, stash, tree, here, now, last)

-- where the tables and the closing are those of before, an engine has the regions that it had then, at most
pub none_more : {R : Type 0} (state : R → RevState) (old : Engine R) (s : StoreState) (new : Engine R) (t : StoreState) → Agrees state old s → Agrees state new t
    → opened_from new ≡ opened_from old → new.public.tables ≡ old.public.tables → HasNoneFrom old.public.next_region (state new.vault.revs)
none_more state old s new t agrees after from tables q least =
    let next = agrees.next in
    next_none ((state new.vault.revs).live q) (λ shape live. elim (after.tables.only q shape live) [
      | inl here ↦
          let below = region_below old.public.pack here.place old.public.tables here.table (world_of state old s) agrees.ready agrees.tables (ap (λ (ts : List Table). slice_get ts here.place) (sym tables) ∙ here.get) in
          let region = here.region in
          omega (arith, below, region, least, next)
      | inr other ↦ let below = other_below state old s new t agrees after from tables q other in omega (arith, below, least, next)
    ])

-- so after a statement that the store cut off
pub none_left : {R : Type 0} (state : R → RevState) (skeleton : Skeleton) (old : Engine R) (s : StoreState) (new : Engine R) (t : StoreState) → Agrees state old s
    → RanStatement state skeleton (Ok (Refused Refusal.StoreFault)) old s new t → HasNoneFrom old.public.next_region (state new.vault.revs)
none_left state skeleton old s new t agrees ran =
    none_more state old s new t agrees ran.goes_on.agrees ran.from_closing
    (ap (λ (p : Public). p.tables) ran.goes_on.public ∙ ap (λ (e : End). tables_then old.public skeleton e) ran.ends)

-- nor has it the one that was made last, where that is gone
pub none_behind : (old new : World) → Ready old → Lasts (one old.vault.next) old new → new.vault.revs.live old.vault.next ≡ None → HasNoneFrom old.vault.next new.vault.revs
none_behind old new ready lasts gone q least = elim (cases_eq q old.vault.next) [
  | inl same ↦ ap new.vault.revs.live same ∙ gone
  | inr off ↦ lasts.apart.live q off ∙ next_none (old.vault.revs.live q) (λ shape live. let below = ready.below q shape live in omega (arith, below, least))
]
