use Rattle.std.proofs.Common.{◌≡◌, ◌+◌, ◌++◌, ◌∷◌, [], ℕ, List, Option, Some, length, sym, ◌∙◌, ap, subst, arith, length-append}
use Rattle.ob_order.specs.Buckets.{BucketsState}
use Rattle.ob_row.specs.Rows.{Row}
use Rattle.ob_row.specs.Slots.{is_selected}
use Rattle.ob_row.specs.Spelling.{Begins, kind_at}
use Rattle.ob_row.specs.Truth.{is_true}
use Rattle.ob_vault.specs.Rows.{SameSizes}
use Rattle.ob_vault.proofs.RowsLemmas.{same_at}
use Rattle.ob_vault.proofs.Runs.{fit_trans}
use Rattle.ob_group.specs.Grouping.{Group, aggs_of, put_row, groups_with}
use Rattle.ob_group.specs.Held.{AreGroups, KeepsGroups}
use Rattle.ob_group.proofs.SlotLemmas.{with_more, slot_on, slot_off, read_more, groups_weak}
use Rattle.ob_group.proofs.keeping.group_rows.Goals as goal
use Rattle.ob_group.proofs.keeping.group_rows.Goals.{then-selected, else-selected}

pub loop-z-preserved : goal.loop-z-preserved
loop-z-preserved c =
    let z = c.loop-z.z in
    let rows = c.args.rows.now in
    let columns = c.args.schema.now in
    let kind = kind_at columns c.args.key in
    let count = length c.args.items.now in
    let p = is_true c.args.pred.now in
    let aggs = aggs_of c.args.items.now in
    let was = c.loop-z.invariant in
    let slots = was.kept.0 in
    let row = same_at rows z c.index-rows-z.result c.loop-z-test.true c.index-rows-z.is in
    let slot = c.in-Ok.ensures.malformed.0 in
    let begins = c.in-Ok.ensures.malformed.1 in
    let is : is_selected p slot ≡ c.in-Ok.selected = c.in-Ok.ensures.malformed.2 in
    record {
      same = elim c.if-selected.branch [
        | then-selected w ↦ subst (SameSizes c.args.groups.now) (sym w.groups-is) (fit_trans _ _ _ was.same w.put_row-n.ensures.size)
        | else-selected w ↦ subst (SameSizes c.args.groups.now) (sym w.groups-is) was.same
      ];
      held_by = elim c.if-selected.branch [
        | then-selected w ↦
            subst (KeepsGroups kind c.if-selected.n c.if-selected.groups) (sym w.buckets-is)
            (subst (λ (l : List (List ℕ)). KeepsGroups kind c.if-selected.n l w.put_row-n.new.buckets) (sym w.groups-is)
            (subst (λ (k : ℕ). KeepsGroups kind k w.put_row-n.new.groups w.put_row-n.new.buckets) (sym w.n-is) w.put_row-n.ensures.kept))
        | else-selected w ↦
            subst (KeepsGroups kind c.if-selected.n c.if-selected.groups) (sym w.buckets-is)
            (subst (λ (l : List (List ℕ)). KeepsGroups kind c.if-selected.n l c.loop-z.buckets) (sym w.groups-is)
            (subst (λ (k : ℕ). KeepsGroups kind k c.loop-z.groups c.loop-z.buckets) (sym w.n-is) was.held_by))
      ];
      most = elim c.if-selected.branch [
        | then-selected w ↦ ap (λ (b : BucketsState). b.most) w.buckets-is ∙ w.put_row-n.ensures.most ∙ was.most
        | else-selected w ↦ ap (λ (b : BucketsState). b.most) w.buckets-is ∙ was.most
      ];
      kept = (
        slots ++ slot ∷ [],
        omega (arith, length-append slots (slot ∷ []), was.kept.1),
        read_more columns rows z slots slot was.kept.1 was.kept.2 (subst (Begins columns slot) (sym row) begins),
        λ gs m few are.
            let gs' = groups_with p c.args.key aggs gs slots in
            let so_far = was.kept.3 gs m few are in
            let next : m + z + 1 ≡ m + (z + 1) = omega arith in
            elim c.if-selected.branch [
              | then-selected w ↦
                  let again = same_at rows z w.index-rows-z-then-selected.result c.loop-z-test.true w.index-rows-z-then-selected.is in
                  let on = slot_on p c.args.key aggs slot (is ∙ w.if-selected.true) in
                  let here : Begins columns (Some on.0) w.index-rows-z-then-selected.result =
                  subst (Begins columns (Some on.0)) (sym row ∙ again) (subst (λ (s : Option Row). Begins columns s c.index-rows-z.result) on.1 begins) in
                  let put = w.put_row-n.ensures.told on.0 here gs' (m + z) (omega (arith, few, c.loop-z-test.true)) so_far in
                  let whole : groups_with p c.args.key aggs gs (slots ++ slot ∷ []) ≡ put_row c.args.key aggs on.0 gs' = with_more p c.args.key aggs gs slots slot ∙ on.2 gs' in
                  subst (λ (l : List (List ℕ)). AreGroups kind (m + (z + 1)) count c.if-selected.n (groups_with p c.args.key aggs gs (slots ++ slot ∷ [])) l) (sym w.groups-is)
                  (subst (λ (k : ℕ). AreGroups kind (m + (z + 1)) count k (groups_with p c.args.key aggs gs (slots ++ slot ∷ [])) w.put_row-n.new.groups) (sym w.n-is)
                  (subst (λ (l : List Group). AreGroups kind (m + (z + 1)) count w.put_row-n.result l w.put_row-n.new.groups) (sym whole)
                  (subst (λ (k : ℕ). AreGroups kind k count w.put_row-n.result (put_row c.args.key aggs on.0 gs') w.put_row-n.new.groups) next put)))
              | else-selected w ↦
                  let whole : groups_with p c.args.key aggs gs (slots ++ slot ∷ []) ≡ gs' = with_more p c.args.key aggs gs slots slot ∙ slot_off p c.args.key aggs gs' slot (is ∙ w.if-selected.false) in
                  subst (λ (l : List (List ℕ)). AreGroups kind (m + (z + 1)) count c.if-selected.n (groups_with p c.args.key aggs gs (slots ++ slot ∷ [])) l) (sym w.groups-is)
                  (subst (λ (k : ℕ). AreGroups kind (m + (z + 1)) count k (groups_with p c.args.key aggs gs (slots ++ slot ∷ [])) c.loop-z.groups) (sym w.n-is)
                  (subst (λ (l : List Group). AreGroups kind (m + (z + 1)) count c.loop-z.n l c.loop-z.groups) (sym whole)
                  (groups_weak kind (m + z) (m + (z + 1)) count c.loop-z.n gs' c.loop-z.groups (omega arith) so_far)))
            ],
      );
    }
