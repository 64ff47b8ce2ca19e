-- A table has no more groups than slots, so that no more rows are opened for them.
use Rattle.std.proofs.Common.{◌≡◌, ◌⊎◌, inl, inr, ◌≤◌, ◌<◌, ◌+◌, ◌*◌, ◌-◌, ◌++◌, ℕ, min, max, Bool, true, false, cond, if◌then◌else◌, List, [], ◌∷◌, length, replicate, take, drop, Some, None, Result, Ok, Err, sym, ◌∙◌, ap, subst, arith}
use Rattle.std.specs.Bool.{⊤}
use Rattle.std.specs.Int.{div_ceil}
use Rattle.std.specs.Prelude.{filter, not, nat_lt, MatchResult, IfOk, IfErr}
use Rattle.std.proofs.lemmas.Bool.Decides.{nat_tests}
use Rattle.std.proofs.lemmas.List.{length-replicate, drop-replicate, get_or-replicate}
use Rattle.std.proofs.lemmas.Grind.{div_ceil_times}
use Rattle.std.proofs.Math.Nat.{mul_comm}
use Rattle.std.proofs.lemmas.Bool.{cases_lt}
use Rattle.ob_base.specs.Events.{Event}
use Rattle.ob_base.specs.Limits.{buffered, buffered_blocks}
use Rattle.ob_base.specs.Lists.{distinct}
use Rattle.ob_room.specs.RoomState.{RoomState, clear}
use Rattle.ob_room.specs.Shelf.{AreWide, IsSound, cleared}
use Rattle.ob_room.specs.LendingOpen.{opened_with}
use Rattle.ob_vault.specs.Rows.{SameSizes, Wide}
use Rattle.ob_vault.specs.State.{World}
use Rattle.ob_vault.proofs.RowsLemmas.{sizes_join}
use Rattle.ob_blocks.specs.Idle.{IsIdle}
use Rattle.ob_blocks.proofs.Blocks.{take_replicate}
use Rattle.ob_row.specs.declared.aggregate.Item.{Item}
use Rattle.ob_row.specs.Rows.{Row, agree_at}
use Rattle.ob_row.specs.Slots.{Slots, rows as rows_in}
use Rattle.ob_row.specs.Totals.{group_heads}
use Rattle.ob_flat.specs.declared.fault.OpErr.{OpErr}
use Rattle.ob_flat.specs.declared.fault.OpErr.TheVariants.{Failed, Sink, NoMemory}
use Rattle.ob_flat.specs.declared.flat.Flat.{Flat}
use Rattle.ob_flat.specs.Flats.{Represents}
use Rattle.ob_flat.specs.Words.{blocks_of}
use Rattle.ob_flat.proofs.Rooms.{open_fits, opened_wide, opened_closed}
use Rattle.ob_group.specs.declared.grouping.Grouped.{Grouped}
use Rattle.ob_group.specs.declared.grouping.Grouped.TheVariants.{Groups, TooMany}
use Rattle.ob_group.specs.Answers.{MatchGrouped, answer_of}
use Rattle.ob_group.specs.Passes.{GroupsRows, kept_blocks}

product_most : (a b r : ℕ) → a ≤ b → a * r ≤ b * r
product_most a b r fits = grind arith

-- ---- how many groups there may be
filter_few : {A : Type 0} (p : A → Bool) (xs : List A) → length (filter p xs) ≤ length xs
filter_few p [] = omega arith
filter_few p (x ∷ xs) =
    let rest = filter_few p xs in
    elim (p x) as (λ (b : Bool). length (cond b (x ∷ filter p xs) (filter p xs)) ≤ length (x ∷ xs)) [ true ↦ omega (arith, rest) | false ↦ omega (arith, rest) ]

distinct_few : {A : Type 0} (eq : A → A → Bool) (xs : List A) → length (distinct eq xs) ≤ length xs
distinct_few eq [] = omega arith
distinct_few eq (x ∷ xs) = omega (arith, filter_few (λ y. not (eq x y)) (distinct eq xs), distinct_few eq xs)

rows_few : (slots : Slots) → length (rows_in slots) ≤ length slots
rows_few [] = omega arith
rows_few (None ∷ slots) = omega (arith, rows_few slots)
rows_few (Some row ∷ slots) = omega (arith, rows_few slots)

heads_few : (key : ℕ) (p : Row → Bool) (slots : Slots) → length (group_heads key (filter p (rows_in slots))) ≤ length slots
heads_few key p slots = omega (arith, distinct_few (agree_at key key) (filter p (rows_in slots)), filter_few p (rows_in slots), rows_few slots)

-- so it is answered the same where fewer are kept, but as many as there may be
same_answer : (few most n : ℕ) → few ≤ most → (few < most → n ≤ few) → answer_of few n ≡ answer_of most n
same_answer few most n less enough =
    let same : nat_lt few n ≡ nat_lt most n = grind (arith, nat_tests, less, enough) in
    ap (λ (b : Bool). if b then TooMany else Groups n) same

-- as many as are opened are no more than may be, and all that there may be
kept_most : (q b p : ℕ) → min q b * p ≤ p * q
kept_most q b p =
    let less : min q b ≤ q = omega arith in
    grind (arith, less)

kept_all : (q b p n : ℕ) → n ≤ b * p → min q b * p < p * q → n ≤ min q b * p
kept_all q b p n all less = elim (cases_lt b q) [
  | inl fewer ↦
      let is : min q b ≡ b = omega (arith, fewer) in subst (λ (k : ℕ). n ≤ k * p) (sym is) all
  | inr most ↦
      let is : min q b ≡ q = omega (arith, most) in
      let whole : q * p ≡ p * q = mul_comm q p in
      absurd (omega (arith, subst (λ (k : ℕ). k * p < p * q) is less, whole))
]

module _ {E : Type 0} (grew cut : E → E → List Event → Type 0) (faults : E → ℕ) (rows pack : ℕ) (some : 1 ≤ pack) (flat : Flat) (p : Row → Bool) (key : ℕ) (items : List Item) (result : Result Grouped OpErr) (old new : World) (a b : E) where
  abbrev kept : ℕ
  kept = kept_blocks pack rows flat * pack

  abbrev most : ℕ
  most = buffered pack rows

  less : kept ≤ most
  less = kept_most (buffered_blocks pack rows) (blocks_of pack flat) pack

  abbrev heads : Slots → ℕ
  heads slots = length (group_heads key (filter p (rows_in slots)))

  enough : (slots : Slots) → Represents pack flat slots old → kept < most → heads slots ≤ kept
  enough slots is fewer =
      let all : flat.capacity ≤ blocks_of pack flat * pack = (div_ceil_times flat.capacity pack (omega (arith, some))).0 in
      let fits = kept_all (buffered_blocks pack rows) (blocks_of pack flat) pack flat.capacity all fewer in
      omega (arith, heads_few key p slots, is.size, fits)

  within : (r : Result Grouped OpErr) → IfOk r (λ answer. MatchGrouped answer (λ n. n ≤ kept) ⊤) → IfOk r (λ answer. MatchGrouped answer (λ n. n ≤ most) ⊤)
  within (Ok (Groups n)) is = omega (arith, is, less)
  within (Ok TooMany) is = tt
  within (Err e) is = tt

  few_within : (r : Result Grouped OpErr) → IfErr r (λ e. (e ≡ Sink) ⊎ (e ≡ NoMemory) → (slots : Slots) → Represents pack flat slots old → new.store.lie ≡ None → heads slots ≤ kept)
      → IfErr r (λ e. (e ≡ Sink) ⊎ (e ≡ NoMemory) → (slots : Slots) → Represents pack flat slots old → new.store.lie ≡ None → heads slots ≤ most)
  few_within (Ok answer) is = tt
  few_within (Err e) is = λ either slots there nolie. omega (arith, is either slots there nolie, less)

  told_within : (slots : Slots) → Represents pack flat slots old → (r : Result Grouped OpErr) → MatchResult r (λ answer. answer ≡ answer_of kept (heads slots)) (λ e. (e ≡ Failed) ⊎ (e ≡ Sink) ⊎ (e ≡ NoMemory))
      → MatchResult r (λ answer. answer ≡ answer_of most (heads slots)) (λ e. (e ≡ Failed) ⊎ (e ≡ Sink) ⊎ (e ≡ NoMemory))
  told_within slots there (Ok answer) is = is ∙ same_answer kept most (heads slots) less (enough slots there)
  told_within slots there (Err e) is = is

  -- what is said of the groups that are kept is true of all that may be
  pub groups_of_all : GroupsRows grew cut faults kept pack flat p key items result old new a b → GroupsRows grew cut faults most pack flat p key items result old new a b
  groups_of_all is = record {
    ran = is.ran;
    never = is.never;
    seals = is.seals;
    source = is.source;
    most = within result is.most;
    emitted = is.emitted;
    halted = is.halted;
    cause = is.cause;
    before = is.before;
    after = is.after;
    few = few_within result is.few;
    told = λ slots there nolie. told_within slots there result (is.told slots there nolie);
  }

-- rows of zeros are as wide as this
wide_clear : (v w n : ℕ) → v ≤ w → Wide v (replicate n (clear w))
wide_clear v w n less = record {
  wide = λ j below. omega (arith, less, length-replicate {A = ℕ} w 0, ap length (get_or-replicate n j (clear w) (clear 0) (omega (arith, below, length-replicate n (clear w)))));
}

-- ---- the rows that are opened: those of a block, and after them the groups
module _ (pack k : ℕ) {all : List (List ℕ)} (s : RoomState) (value : all ≡ replicate (pack + k * pack) (clear s.width)) where
  pub front_clear : {front : List (List ℕ)} → front ≡ take pack all → front ≡ replicate pack (clear s.width)
  front_clear is = is ∙ ap (take pack) value ∙ take_replicate pack (pack + k * pack) (clear s.width) (omega arith)

  back_clear : {back : List (List ℕ)} → back ≡ drop pack all → back ≡ replicate (k * pack) (clear s.width)
  back_clear is =
      let rest : pack + k * pack - pack ≡ k * pack = omega arith in
      is ∙ ap (drop pack) value ∙ drop-replicate pack (pack + k * pack) (clear s.width) ∙ ap (λ (n : ℕ). replicate n (clear s.width)) rest

  pub back_count : {back : List (List ℕ)} → back ≡ drop pack all → length back ≡ k * pack
  back_count is = ap length (back_clear is) ∙ length-replicate (k * pack) (clear s.width)

  pub back_wide : {back : List (List ℕ)} (v : ℕ) → v ≤ s.width → back ≡ drop pack all → Wide v back
  back_wide v narrow is = subst (Wide v) (sym (back_clear is)) (wide_clear v s.width (k * pack) narrow)

  module _ {front back a b : List (List ℕ)} (width : ℕ) (idle : IsIdle width s) (fits : pack + k * pack ≤ s.rows) (split : all ≡ front ++ back) (first : SameSizes front a) (second : SameSizes back b) where
    sizes : SameSizes all (a ++ b)
    sizes = subst (λ (l : List (List ℕ)). SameSizes l (a ++ b)) (sym split) (sizes_join front back a b first second)

    -- at the end they are as wide as they were
    pub ends_wide : AreWide s.width (opened_with s (pack + k * pack) (a ++ b)).shelf
    ends_wide = opened_wide width (pack + k * pack) s all (a ++ b) idle fits value sizes

    -- and all are free again
    pub ends_closed : IsSound s → cleared (opened_with s (pack + k * pack) (a ++ b)) ≡ record s { high = max s.high (pack + k * pack) }
    ends_closed sound = opened_closed width (pack + k * pack) s all (a ++ b) idle fits value sizes sound

-- they are no more than the room has
pub open_most : {k pack rows : ℕ} (blocks : ℕ) (s : RoomState) → k ≡ min (buffered_blocks pack rows) blocks → pack ≡ s.pack → rows ≡ s.rows → 3 * s.pack + 1 ≤ s.rows → pack + k * pack ≤ s.rows
open_most {k} {pack} {rows} blocks s is same whole most =
    let one : 1 * pack ≡ pack = omega arith in
    let less : k * pack ≤ buffered_blocks pack rows * pack = product_most k (buffered_blocks pack rows) pack (omega (arith, is)) in
    omega (arith, whole, one, less, open_fits 1 pack rows (omega arith) (omega (arith, same, whole, most)))

pub kept_are : {k blocks pack rows : ℕ} (s : RoomState) (flat : Flat) → k ≡ min (buffered_blocks pack rows) blocks → blocks ≡ div_ceil flat.capacity pack → pack ≡ s.pack → rows ≡ s.rows → k ≡ kept_blocks s.pack s.rows flat
kept_are s flat is blocks same whole =
    is ∙ (λ i. min (buffered_blocks (same i) (whole i)) (blocks i)) ∙ ap (λ (p : ℕ). min (buffered_blocks s.pack s.rows) (div_ceil flat.capacity p)) same
