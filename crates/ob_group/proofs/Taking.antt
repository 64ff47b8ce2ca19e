-- Groups that grow row by row are those of GROUP BY.
use Rattle.std.proofs.Common.{◌≡◌, ℕ, ℤ, Bool, true, false, List, [], ◌∷◌, ◌++◌, length, map, fold, refl, sym, ◌∙◌, ap, cond, append-nil, append_assoc}
use Rattle.std.specs.Prelude.{filter, Option, Some, None, ◌||◌, if◌then◌else◌, ⊤}
use Rattle.std.specs.List.{list_any}
use Rattle.std.proofs.lemmas.List.{length-map}
use Rattle.std.proofs.lemmas.List.Elements.{filter-append}
use Rattle.std.proofs.lemmas.List.Sums.{fold-append}
use Rattle.ob_base.specs.Lists.{distinct, has_repeats}
use Rattle.ob_base.specs.declared.shown.Shown.{Shown}
use Rattle.ob_row.specs.declared.aggregate.Agg.{Agg}
use Rattle.ob_row.specs.declared.aggregate.Item.{Item}
use Rattle.ob_row.specs.declared.aggregate.Item.TheVariants.{Key, Agg as AggItem}
use Rattle.ob_row.specs.Rows.{Row, agree_at, cell_at}
use Rattle.ob_row.specs.Slots.{Slots, rows}
use Rattle.ob_row.specs.Totals.{item_shown, group_of, group_heads, grouped}
use Rattle.ob_row.proofs.PlaceLemmas.{is_false}
use Rattle.ob_group.specs.Running.{Sums, start, starts, grown, grown_all}
use Rattle.ob_group.specs.Grouping.{Group, agg_of, aggs_of, group_with, group_by, put_row, groups_with, groups_of, item_cell, item_cells, groups_shown}
use Rattle.ob_group.proofs.Heads.{agree-sym, agree-trans, neither, distinct-once, is_old, more, heads-more, none_before}
use Rattle.ob_group.proofs.Grown.{grown_by, total_is, first_grown}

-- each row has a cell at the key's place
abbrev pub AreKeyed : ℕ → List Row → Type 0
AreKeyed key [] = ⊤
AreKeyed key (row ∷ rows) = (agree_at key key row row ≡ true) × AreKeyed key rows

module _ (key : ℕ) (aggs : List Agg) where
  abbrev eq : Row → Row → Bool
  eq = agree_at key key

  -- the group of a row, among these
  abbrev pub group_at : List Row → Row → Group
  group_at rows head = (cell_at head key, grown_by aggs (starts aggs) (group_of key rows head))

  abbrev pub groups_at : List Row → List Group
  groups_at rows = map (group_at rows) (group_heads key rows)

  grown-more : (ts : Sums) (rows : List Row) (x : Row) → grown_by aggs ts (rows ++ x ∷ []) ≡ grown_all aggs x (grown_by aggs ts rows)
  grown-more ts rows x = fold-append (λ (ts : Sums) (row : Row). grown_all aggs row ts) ts rows (x ∷ [])

  module _ (xs : List Row) (x : Row) where
    group-more : (h : Row) → group_of key (xs ++ x ∷ []) h ≡ group_of key xs h ++ cond (eq h x) (x ∷ []) []
    group-more h = filter-append (eq h) xs (x ∷ [])

    -- a group of another key, and the one of its key
    group-other : (h : Row) → eq h x ≡ false → group_at (xs ++ x ∷ []) h ≡ group_at xs h
    group-other h e =
        ap (λ (l : List Row). (cell_at h key, grown_by aggs (starts aggs) l)) (group-more h ∙ ap (λ (b : Bool). group_of key xs h ++ cond b (x ∷ []) []) e ∙ append-nil (group_of key xs h))

    group-same : (h : Row) → eq h x ≡ true → group_at (xs ++ x ∷ []) h ≡ group_with aggs x (group_at xs h)
    group-same h e =
        ap (λ (l : List Row). (cell_at h key, grown_by aggs (starts aggs) l)) (group-more h ∙ ap (λ (b : Bool). group_of key xs h ++ cond b (x ∷ []) []) e)
        ∙ ap (λ (ts : Sums). (cell_at h key, ts)) (grown-more (starts aggs) (group_of key xs h) x)

    group-new : eq x x ≡ true → filter (eq x) xs ≡ [] → group_at (xs ++ x ∷ []) x ≡ group_by key aggs x
    group-new own none = group-same x own ∙ ap (λ (l : List Row). (cell_at x key, grown_all aggs x (grown_by aggs (starts aggs) l))) none

    -- no group after the one of its key has it
    groups-other : (h : Row) (hs : List Row) → eq h x ≡ true → list_any (eq h) hs ≡ false → map (group_at (xs ++ x ∷ [])) hs ≡ map (group_at xs) hs
    groups-other h [] is none = refl
    groups-other h (g ∷ hs) is none =
        let n = neither (eq h g) (list_any (eq h) hs) none in
        let off : eq g x ≡ false = is_false (eq g x) (λ k. cc (agree-trans key h x g is (agree-sym key g x k), n.0)) in
        ap (λ (g' : Group). g' ∷ map (group_at (xs ++ x ∷ [])) hs) (group-other g off) ∙ ap (λ (l : List Group). group_at xs g ∷ l) (groups-other h hs is n.1)

    put-heads : (hs : List Row) → has_repeats eq hs ≡ false → eq x x ≡ true → (is_old key x hs ≡ false → filter (eq x) xs ≡ [])
        → map (group_at (xs ++ x ∷ [])) (hs ++ more key x (is_old key x hs)) ≡ put_row key aggs x (map (group_at xs) hs)
    put-heads [] once own new = ap (λ (g : Group). g ∷ []) (group-new own (new refl))
    put-heads (h ∷ hs) once own new =
        let n = neither (list_any (eq h) hs) (has_repeats eq hs) once in
        let split : (b : Bool) → eq h x ≡ b → map (group_at (xs ++ x ∷ [])) ((h ∷ hs) ++ more key x (b || is_old key x hs))
        ≡ (if b then group_with aggs x (group_at xs h) ∷ map (group_at xs) hs else group_at xs h ∷ put_row key aggs x (map (group_at xs) hs)) =
        λ b. elim b as (λ (b : Bool). eq h x ≡ b → map (group_at (xs ++ x ∷ [])) ((h ∷ hs) ++ more key x (b || is_old key x hs))
        ≡ (if b then group_with aggs x (group_at xs h) ∷ map (group_at xs) hs else group_at xs h ∷ put_row key aggs x (map (group_at xs) hs))) [
          | true ↦ λ e.
              ap (map (group_at (xs ++ x ∷ []))) (append-nil (h ∷ hs))
              ∙ ap (λ (g : Group). g ∷ map (group_at (xs ++ x ∷ [])) hs) (group-same h e)
              ∙ ap (λ (l : List Group). group_with aggs x (group_at xs h) ∷ l) (groups-other h hs e n.0)
          | false ↦ λ e.
              let rest = put-heads hs n.1 own (λ none. new (ap (λ (t : Bool). t || is_old key x hs) e ∙ none)) in
              ap (λ (g : Group). g ∷ map (group_at (xs ++ x ∷ [])) (hs ++ more key x (is_old key x hs))) (group-other h e) ∙ ap (λ (l : List Group). group_at xs h ∷ l) rest
        ] in
        split (eq h x) refl

    -- one row more
    groups-more : eq x x ≡ true → groups_at (xs ++ x ∷ []) ≡ put_row key aggs x (groups_at xs)
    groups-more own = ap (map (group_at (xs ++ x ∷ []))) (heads-more key x xs) ∙ put-heads (distinct eq xs) (distinct-once eq xs) own (none_before key x xs)

  -- and all of them
  pub groups-put : (xs ys : List Row) → AreKeyed key ys → fold (λ (gs : List Group) (row : Row). put_row key aggs row gs) (groups_at xs) ys ≡ groups_at (xs ++ ys)
  groups-put xs [] keyed = ap groups_at (sym (append-nil xs))
  groups-put xs (y ∷ ys) keyed =
      ap (λ (gs : List Group). fold (λ (gs : List Group) (row : Row). put_row key aggs row gs) gs ys) (sym (groups-more xs y keyed.0))
      ∙ groups-put (xs ++ y ∷ []) ys keyed.1 ∙ ap groups_at (append_assoc xs (y ∷ []) ys)

-- the selected rows of the slots
pub put-rows : (p : Row → Bool) (key : ℕ) (aggs : List Agg) (gs : List Group) (slots : Slots) → groups_with p key aggs gs slots ≡ fold (λ (gs : List Group) (row : Row). put_row key aggs row gs) gs (filter p (rows slots))
put-rows p key aggs gs [] = refl
put-rows p key aggs gs (None ∷ slots) = put-rows p key aggs gs slots
put-rows p key aggs gs (Some row ∷ slots) =
    elim (p row) as (λ (b : Bool). groups_with p key aggs (if b then put_row key aggs row gs else gs) slots ≡ fold (λ (gs : List Group) (row : Row). put_row key aggs row gs) gs (cond b (row ∷ filter p (rows slots)) (filter p (rows slots)))) [
      | true ↦ put-rows p key aggs (put_row key aggs row gs) slots
      | false ↦ put-rows p key aggs gs slots
    ]

-- the cells of a group's row
cells_are : (key : ℕ) (row : Row) (items : List Item) (group : List Row) → item_cells (cell_at row key) items (grown_by (aggs_of items) (starts (aggs_of items)) group) ≡ map (item_shown key row group) items
cells_are key row [] group = refl
cells_are key row (item ∷ items) group =
    ap (item_cells (cell_at row key) (item ∷ items)) (first_grown (agg_of item) (aggs_of items) (start (agg_of item)) (starts (aggs_of items)) group)
    ∙ ap (λ (x : Shown). x ∷ item_cells (cell_at row key) items (grown_by (aggs_of items) (starts (aggs_of items)) group)) (one item)
    ∙ ap (λ (l : List Shown). item_shown key row group item ∷ l) (cells_are key row items group)
  where
    one : (item : Item) → item_cell (cell_at row key) item (fold (λ (t : Option ℤ) (row : Row). grown row (agg_of item) t) (start (agg_of item)) group) ≡ item_shown key row group item
    one Key = refl
    one (AggItem agg) = total_is agg group

shown_are : (key : ℕ) (items : List Item) (rows heads : List Row) → groups_shown items (map (group_at key (aggs_of items) rows) heads) ≡ map (λ row. map (item_shown key row (group_of key rows row)) items) heads
shown_are key items rows [] = refl
shown_are key items rows (h ∷ heads) =
    ap (λ (l : List Shown). l ∷ groups_shown items (map (group_at key (aggs_of items) rows) heads)) (cells_are key h items (group_of key rows h))
    ∙ ap (λ (l : List (List Shown)). map (item_shown key h (group_of key rows h)) items ∷ l) (shown_are key items rows heads)

-- the groups of a table, and their number
module _ (p : Row → Bool) (key : ℕ) (items : List Item) (slots : Slots) (keyed : AreKeyed key (filter p (rows slots))) where
  pub groups-are : groups_of p key items slots ≡ groups_at key (aggs_of items) (filter p (rows slots))
  groups-are = put-rows p key (aggs_of items) [] slots ∙ groups-put key (aggs_of items) [] (filter p (rows slots)) keyed

  pub groups-grouped : groups_shown items (groups_of p key items slots) ≡ grouped key items (filter p (rows slots))
  groups-grouped = ap (groups_shown items) groups-are ∙ shown_are key items (filter p (rows slots)) (group_heads key (filter p (rows slots)))

  pub groups-number : length (groups_of p key items slots) ≡ length (group_heads key (filter p (rows slots)))
  groups-number = ap (λ (gs : List Group). length gs) groups-are ∙ length-map (group_heads key (filter p (rows slots))) (group_at key (aggs_of items) (filter p (rows slots)))
