-- A SELECT that may fly: nothing is gathered with it, and it leaves tables and draws as they are.
use Rattle.ob_shell.proofs.Words.{access_public, after, ap, arith, batch_most, begins_batch, Bool, Draws, early_refusal, End, false, Gathering, headings, headings_of, How, if◌then◌else◌, inserts_into, is_full_now, is_index, is_late, is_some, Batched, limits_of, List, may_fly, nat_le, nat_lt, None, Option, option_map, option_map_or, Public, refl, Refusal, Seen, seen_or_cut, SelectsFromOne, Session, Skeleton, skeleton, Some, Static, Stmt, sym, Tables, true, ℕ, ◌&&◌, ◌+◌, ◌∙◌, ◌≡◌}
use Rattle.std.specs.Prelude.{not, bytes_eq}
use Rattle.std.specs.Option.{is_none}
use Rattle.ob_base.specs.declared.skeleton.Skeleton.TheVariants as K
use Rattle.ob_base.specs.declared.skeleton.Source.TheVariants.{Table as OneTable}
use Rattle.ob_mean.specs.Batches.{and_one, begun_by, gathering_after, goes_into, inserts_flat, is_unrefused, leaves_room}
use Rattle.ob_mean.specs.Lawful.{HoldsLeaf, Lawful}
use Rattle.ob_mean.specs.Replay.{Alone, CutAfter, CutWith, With, drawn_by, draws_taken, has_index, is_access, settle_or_cut}
use Rattle.ob_mean.specs.Settle.{settle, settle_served, settled}
use Rattle.ob_mean.specs.Step.{followed}
use Rattle.ob_mean.specs.Verdict.{Accessed, accessed, accessed_now, gone, refusal}
use Rattle.ob_sql.specs.declared.stmt.Stmt.TheVariants.{SelectRows as RowsStmt, SelectTotals as TotalsStmt}

-- ---- by its outline
not_so : (b : Bool) → not b ≡ true → b ≡ false
not_so true is = absurd (cc is)
not_so false is = refl

pub flown_selects : (p : Public) (sk : Skeleton) → may_fly p sk ≡ true → SelectsFromOne sk
flown_selects p (K.Rows (OneTable name) cs) fly = tt
flown_selects p (K.Groups table cs key) fly = tt
flown_selects p other fly = absurd (cc fly)

pub flown_flat : (p : Public) (sk : Skeleton) → may_fly p sk ≡ true → is_access p sk ≡ false
flown_flat p (K.Rows (OneTable name) cs) fly = not_so (has_index p name) fly
flown_flat p (K.Groups table cs key) fly = refl
flown_flat p other fly = absurd (cc fly)

pub flown_inserts : (p : Public) (sk : Skeleton) → may_fly p sk ≡ true → inserts_into sk ≡ None
flown_inserts p (K.Insert table cs) fly = absurd (cc fly)
flown_inserts p other fly = refl

-- ---- nothing is gathered
none_behind : (a b : Bool) → (a && b && false) ≡ false
none_behind true true = refl
none_behind true false = refl
none_behind false b = refl

none_between : (a b c : Bool) → (a && b && false && c) ≡ false
none_between true true c = refl
none_between true false c = refl
none_between false b c = refl

pub flown_apart : (p : Public) (g : Option Gathering) (sk : Skeleton) → may_fly p sk ≡ true → goes_into p g sk ≡ false
flown_apart p None sk fly = refl
flown_apart p (Some h) sk fly =
    ap (λ (o : Option (List ℕ)). is_some p.batch && nat_lt h.count (batch_most p) && option_map_or (bytes_eq h.table) o false) (flown_inserts p sk fly)
    ∙ none_behind (is_some p.batch) (nat_lt h.count (batch_most p))

flown_begins : (p : Public) (m : ℕ) (stmt : Stmt) → may_fly p (skeleton stmt) ≡ true → begins_batch p m stmt ≡ false
flown_begins p m stmt fly =
    let flat : inserts_flat p (skeleton stmt) ≡ false = ap (λ (o : Option (List ℕ)). option_map_or (λ (table : List ℕ). not (is_index (headings_of p.tables) table)) o false) (flown_inserts p (skeleton stmt) fly) in
    ap (λ (b : Bool). nat_le 2 (batch_most p) && leaves_room m && b && is_unrefused p m stmt) flat
    ∙ none_between (nat_le 2 (batch_most p)) (leaves_room m) (is_unrefused p m stmt)

pub flown_gathers : (p : Public) (m : ℕ) (g : Option Gathering) (stmt : Stmt) (end : End) → may_fly p (skeleton stmt) ≡ true → gathering_after p m g stmt end ≡ None
flown_gathers p m g stmt end fly =
    let goes = flown_apart p g (skeleton stmt) fly in
    let begins = flown_begins p m stmt fly in
    λ i. if goes i then option_map and_one g else if begins i then begun_by (skeleton stmt) end else None

-- ---- no index is read
drawn_flat : (p : Public) (sk : Skeleton) → may_fly p sk ≡ true → drawn_by p sk ≡ 0
drawn_flat p (K.Rows source cs) fly = ap (λ (b : Bool). if b then 1 else 0) (flown_flat p (K.Rows source cs) fly)
drawn_flat p (K.Groups table cs key) fly = refl
drawn_flat p other fly = absurd (cc fly)

draws_flat : (p : Public) (sk : Skeleton) (end : End) → may_fly p sk ≡ true → draws_taken p sk end ≡ 0
draws_flat p sk Static fly = refl
draws_flat p sk Batched fly = refl
draws_flat p sk other fly = drawn_flat p sk fly

leaf_by : (p : Public) (sk : Skeleton) (leaf : Option ℕ) (end : End) → may_fly p sk ≡ true → HoldsLeaf p sk leaf end → leaf ≡ None
leaf_by p sk None end fly holds = refl
leaf_by p sk (Some leaf) end fly holds = absurd (let off = flown_flat p sk fly in let on = holds.0 in cc (off, on))

pub flown_leaf : (p : Public) (m : ℕ) (stmt : Stmt) (seen : Seen) → may_fly p (skeleton stmt) ≡ true → Lawful p m stmt seen → seen.leaf ≡ None
flown_leaf p m stmt seen fly lawful = leaf_by p (skeleton stmt) seen.leaf seen.end fly lawful.leaf

-- ---- by the model
followed_same : (o : Option Refusal) (ts : Tables) → followed o ts ts ≡ ts
followed_same None ts = refl
followed_same (Some r) ts = refl

settled_same : (d : Draws) (p : Public) (ts : Tables) (stmt : Stmt) → may_fly p (skeleton stmt) ≡ true → settled d p ts stmt ≡ ts
settled_same d p ts (RowsStmt q) fly = refl
settled_same d p ts (TotalsStmt q) fly = refl
settled_same d p ts other fly = absurd (cc fly)

module _ (p : Public) (m : ℕ) (ts : Tables) (listed : headings ts ≡ headings_of p.tables) (stmt : Stmt) (fly : may_fly p (skeleton stmt) ≡ true) where
  none_by : (o : Option Accessed) → is_some o ≡ false → o ≡ None
  none_by None is = refl
  none_by (Some a) is = absurd (cc is)

  pub unkeyed_flown : early_refusal (is_late m) (limits_of p) (headings ts) stmt ≡ None → accessed ts stmt ≡ None
  unkeyed_flown early = none_by (accessed ts stmt) (sym (access_public p ts listed (is_late m) (limits_of p) stmt early) ∙ flown_flat p (skeleton stmt) fly)

  pub accesses_none : accessed_now p m ts stmt ≡ None
  accesses_none = go (early_refusal (is_late m) (limits_of p) (headings ts) stmt) refl
    where
      go : (o : Option Refusal) → early_refusal (is_late m) (limits_of p) (headings ts) stmt ≡ o → accessed_now p m ts stmt ≡ None
      go (Some r) is = ap (λ (o : Option Refusal). if is_some o then None else accessed ts stmt) is
      go None is = ap (λ (o : Option Refusal). if is_some o then None else accessed ts stmt) is ∙ unkeyed_flown is

  pub settles_none : (d : Draws) → settle d p m ts stmt ≡ ts
  settles_none d =
      ap (λ (o : Option Accessed). settle_served d o p m ts stmt) accesses_none
      ∙ ap (λ (us : Tables). followed (refusal p m ts stmt) us ts) (settled_same d p ts stmt fly) ∙ followed_same (refusal p m ts stmt) ts

  pub room_flown : (d : Draws) → is_full_now (record { public = p; tables = ts; asked = m; draws = d }) stmt ≡ false
  room_flown d = ap (λ (o : Option Accessed). option_map_or (λ (a : Accessed). is_none (gone d a)) o false) accesses_none

-- so it was served
abbrev pub IsOwn : How → Type 0
IsOwn Alone = Unit {0}
IsOwn (CutAfter n) = Unit {0}
IsOwn _ = ⊥

pub record LeavesAll (how : How) (s : Session) (stmt : Stmt) : Type 0 where
  pub tables : (after how s stmt).tables ≡ s.tables
  pub draws : (after how s stmt).draws ≡ s.draws

drawn_none : (d : Draws) (n : ℕ) → n ≡ 0 → record d { drawn = d.drawn + n } ≡ d
drawn_none d n none = let same : d.drawn + n ≡ d.drawn = omega (arith, none) in λ i. record d { drawn = same i }

tables_same : (how : How) (s : Session) (stmt : Stmt) → IsOwn how → headings s.tables ≡ headings_of s.public.tables → may_fly s.public (skeleton stmt) ≡ true → settle_or_cut how s stmt ≡ s.tables
tables_same Alone s stmt own listed fly = settles_none s.public s.asked s.tables listed stmt fly s.draws
tables_same (CutAfter n) s stmt own listed fly = refl
tables_same With s stmt own listed fly = absurd own
tables_same CutWith s stmt own listed fly = absurd own

pub leaves_all : (how : How) (s : Session) (stmt : Stmt) → IsOwn how → headings s.tables ≡ headings_of s.public.tables → may_fly s.public (skeleton stmt) ≡ true → LeavesAll how s stmt
leaves_all how s stmt own listed fly = record {
  tables = tables_same how s stmt own listed fly;
  draws = drawn_none s.draws (draws_taken s.public (skeleton stmt) (seen_or_cut how s stmt).end) (draws_flat s.public (skeleton stmt) (seen_or_cut how s stmt).end fly);
}
