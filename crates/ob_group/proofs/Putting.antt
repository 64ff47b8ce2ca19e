-- Where a row is put, among the groups and in their rows.
use Rattle.std.proofs.Common.{◌≡◌, ◌≤◌, ◌<◌, ◌+◌, ◌-◌, ℕ, zero, suc, Bool, true, false, List, [], ◌∷◌, ◌++◌, length, Option, Some, slice_index_or, slice_set, inl, inr, refl, sym, ◌∙◌, ap, subst, arith, length-append, get_or-set_same, get_or-set_other}
use Rattle.std.specs.Prelude.{if◌then◌else◌}
use Rattle.std.proofs.lemmas.List.{length-set, get_or_append_left}
use Rattle.std.proofs.Math.Seq.{get_or-append_right}
use Rattle.std.proofs.lemmas.Bool.{cases_eq}
use Rattle.ob_base.specs.declared.schema.Kind.{Kind}
use Rattle.ob_row.specs.declared.aggregate.Agg.{Agg}
use Rattle.ob_row.specs.declared.cell.Cell.{Cell}
use Rattle.ob_row.specs.Rows.{Row, cell_at, cell_eq, options_eq}
use Rattle.ob_vault.specs.Rows.{row_at}
use Rattle.ob_group.specs.Grouping.{Group, group_with, group_by, put_row}
use Rattle.ob_group.specs.Held.{HoldsKey, HoldsGroup, AreGroups, no_group}
use Rattle.ob_group.proofs.GroupBytes.{holds_key, holds_more}

abbrev group : List Group → ℕ → Group
group gs i = slice_index_or gs i no_group

module _ (key : ℕ) (aggs : List Agg) (row : Row) where
  abbrev has : Group → Bool
  has g = options_eq g.0 (cell_at row key)

  branch : (b : Bool) (g : Group) (gs : List Group) → has g ≡ b → put_row key aggs row (g ∷ gs) ≡ (if b then group_with aggs row g ∷ gs else g ∷ put_row key aggs row gs)
  branch b g gs e = ap (λ (t : Bool). if t then group_with aggs row g ∷ gs else g ∷ put_row key aggs row gs) e

  -- the first group with its key is the one to which it goes
  put-old : (i : ℕ) (gs : List Group) → i < length gs → ((j : ℕ) → j < i → has (group gs j) ≡ false) → has (group gs i) ≡ true → put_row key aggs row gs ≡ slice_set gs i (group_with aggs row (group gs i))
  put-old i [] below off on = absurd (omega (arith, below))
  put-old zero (g ∷ gs) below off on = branch true g gs on
  put-old (suc i) (g ∷ gs) below off on =
      branch false g gs (off 0 (omega arith)) ∙ ap (λ (l : List Group). g ∷ l) (put-old i gs (omega (arith, below)) (λ j h. off (suc j) (omega (arith, h))) on)

  put-new : (gs : List Group) → ((j : ℕ) → j < length gs → has (group gs j) ≡ false) → put_row key aggs row gs ≡ gs ++ group_by key aggs row ∷ []
  put-new [] off = refl
  put-new (g ∷ gs) off = branch false g gs (off 0 (omega arith)) ∙ ap (λ (l : List Group). g ∷ l) (put-new gs (λ j h. off (suc j) (omega (arith, h))))

  -- there are no fewer
  put-long : (gs : List Group) → length gs ≤ length (put_row key aggs row gs)
  put-long [] = omega arith
  put-long (g ∷ gs) =
      let rest = put-long gs in
      elim (has g) as (λ (b : Bool). suc (length gs) ≤ length (if b then group_with aggs row g ∷ gs else g ∷ put_row key aggs row gs)) [ true ↦ omega arith | false ↦ omega (arith, rest) ]

  module _ (kind : Kind) (m count n : ℕ) (gs : List Group) (rows : List (List ℕ)) (are : AreGroups kind m count n gs rows) where
    -- they are those of one row more
    each_more : n ≤ length rows → (i : ℕ) → i < n → HoldsGroup kind (m + 1) count (group gs i) (row_at rows i)
    each_more most i below = holds_more kind m count (group gs i) (row_at rows i) (are.each most i below) (m + 1) (omega arith)

    -- there were too many
    pub groups_past : length rows < n → AreGroups kind (m + 1) count n (put_row key aggs row gs) rows
    groups_past past = record {
      all = λ most. absurd (omega (arith, past, most));
      more = λ _. omega (arith, are.more past, put-long gs);
      each = λ most. absurd (omega (arith, past, most));
    }

    module _ (most : n ≤ length rows) (x : Cell) (is : cell_at row key ≡ Some x) where
      has_key : (i : ℕ) (b : Bool) → i < n → ((y : Cell) → HoldsKey kind y (row_at rows i) → cell_eq y x ≡ b) → has (group gs i) ≡ b
      has_key i b below told =
          let held = are.each most i below in
          ap (λ (k : Option Cell). options_eq k (cell_at row key)) held.same ∙ ap (options_eq (Some held.key)) is ∙ told held.key (holds_key kind m count (group gs i) (row_at rows i) held)

      -- it went to a group that there was
      pub groups_old : (i : ℕ) (bytes : List ℕ) → i < n → ((j : ℕ) → j < i → (y : Cell) → HoldsKey kind y (row_at rows j) → cell_eq y x ≡ false)
          → ((y : Cell) → HoldsKey kind y (row_at rows i) → cell_eq y x ≡ true) → HoldsGroup kind (m + 1) count (group_with aggs row (group gs i)) bytes
          → AreGroups kind (m + 1) count n (put_row key aggs row gs) (slice_set rows i bytes)
      groups_old i bytes below off on held =
          let size = are.all most in
          let long = length-set rows i bytes in
          let put = put-old i gs (omega (arith, size, below)) (λ j h. has_key j false (omega (arith, h, below)) (off j h)) (has_key i true below on) in
          let inside : i < length rows = omega (arith, below, most) in
          subst (λ (l : List Group). AreGroups kind (m + 1) count n l (slice_set rows i bytes)) (sym put)
          (record {
            all = λ _. length-set gs i (group_with aggs row (group gs i)) ∙ size;
            more = λ past. absurd (omega (arith, past, long, most));
            each = λ _ j h. elim (cases_eq j i) [
              | inl same ↦
                  subst (λ (k : ℕ). HoldsGroup kind (m + 1) count (group (slice_set gs i (group_with aggs row (group gs i))) k) (row_at (slice_set rows i bytes) k)) (sym same)
                  (subst (λ (g : Group). HoldsGroup kind (m + 1) count g (row_at (slice_set rows i bytes) i)) (sym (get_or-set_same gs i (group_with aggs row (group gs i)) no_group (omega (arith, size, below))))
                  (subst (HoldsGroup kind (m + 1) count (group_with aggs row (group gs i))) (sym (get_or-set_same rows i bytes [] inside)) held))
              | inr other ↦
                  subst (λ (g : Group). HoldsGroup kind (m + 1) count g (row_at (slice_set rows i bytes) j)) (sym (get_or-set_other gs i j (group_with aggs row (group gs i)) no_group other))
                  (subst (HoldsGroup kind (m + 1) count (group gs j)) (sym (get_or-set_other rows i j bytes [] other)) (each_more most j h))
            ];
          })

      module _ (off : (j : ℕ) → j < n → (y : Cell) → HoldsKey kind y (row_at rows j) → cell_eq y x ≡ false) where
        put : put_row key aggs row gs ≡ gs ++ group_by key aggs row ∷ []
        put = put-new gs (λ j h. let below : j < n = omega (arith, h, are.all most) in has_key j false below (off j below))

        -- it is the first of a new one
        pub groups_new : (bytes : List ℕ) → n < length rows → HoldsGroup kind 1 count (group_by key aggs row) bytes → AreGroups kind (m + 1) count (n + 1) (put_row key aggs row gs) (slice_set rows n bytes)
        groups_new bytes inside held =
            let size = are.all most in
            let long = length-set rows n bytes in
            let g = group_by key aggs row in
            subst (λ (l : List Group). AreGroups kind (m + 1) count (n + 1) l (slice_set rows n bytes)) (sym put)
            (record {
              all = λ _. omega (arith, length-append gs (g ∷ []), size);
              more = λ past. absurd (omega (arith, past, long, inside));
              each = λ _ j h. elim (cases_eq j n) [
                | inl same ↦
                    let first : n - length gs ≡ 0 = omega (arith, size) in
                    let last : group (gs ++ g ∷ []) n ≡ g = get_or-append_right gs (g ∷ []) n no_group (omega (arith, size)) ∙ ap (group (g ∷ [])) first in
                    subst (λ (k : ℕ). HoldsGroup kind (m + 1) count (group (gs ++ g ∷ []) k) (row_at (slice_set rows n bytes) k)) (sym same)
                    (subst (λ (g' : Group). HoldsGroup kind (m + 1) count g' (row_at (slice_set rows n bytes) n)) (sym last)
                    (subst (HoldsGroup kind (m + 1) count g) (sym (get_or-set_same rows n bytes [] inside)) (holds_more kind 1 count g bytes held (m + 1) (omega arith))))
                | inr other ↦
                    let below : j < n = omega (arith, h, other) in
                    subst (λ (g' : Group). HoldsGroup kind (m + 1) count g' (row_at (slice_set rows n bytes) j)) (sym (get_or_append_left gs (g ∷ []) no_group j (omega (arith, below, size))))
                    (subst (HoldsGroup kind (m + 1) count (group gs j)) (sym (get_or-set_other rows n j bytes [] other)) (each_more most j below))
              ];
            })

        -- it is, and there is no row for it
        pub groups_full : length rows ≤ n → AreGroups kind (m + 1) count (n + 1) (put_row key aggs row gs) rows
        groups_full full = record {
          all = λ h. absurd (omega (arith, h, full));
          more = λ _. omega (arith, ap (λ (l : List Group). length l) put, length-append gs (group_by key aggs row ∷ []), are.all most, full);
          each = λ h. absurd (omega (arith, h, full));
        }
