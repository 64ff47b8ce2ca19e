use Rattle.std.proofs.Common.{◌<◌, ◌≤◌, ℕ, [], Some, Ok, Err, inl, inr, length, slice_index_or, sym, ◌∙◌, ap, arith}
use Rattle.std.proofs.lemmas.Bool.{cases_lt}
use Rattle.std.proofs.lemmas.List.{get_or_default, get_or-map, length-map}
use Rattle.std.proofs.lemmas.List.Sorted.{searched}
use Rattle.ob_mutate.specs.Batches.{rows_of}
use Rattle.ob_mutate.proofs.Sought.{rising, put_found, put_behind, put_absent, place_inside}
use Rattle.ob_mutate.proofs.putting.row_for.Goals as goal

pub bounds-batch-taken : goal.bounds-batch-taken
bounds-batch-taken c = place_inside (length c.args.batch.now) c.args.taken.now c.requires.places c.in-Ok.k c.if-k-taken.true

pub returns-then-k-taken-clause-some : goal.returns-then-k-taken-clause-some
returns-then-k-taken-clause-some c = λ slot.
    let k = c.in-Ok.k in
    let free = c.args.free.now in
    let taken = c.args.taken.now in
    let batch = c.args.batch.now in
    let rise = c.requires.rise in
    let part = λ (j : ℕ). slice_index_or batch j [] in
    let there = searched free c.args.i (Ok k) c.in-Ok.ensures.position (rising 0 rise.0 free rise.1) in
    let inside = place_inside (length batch) taken c.requires.places k c.if-k-taken.true in
    let has : k < length (rows_of batch taken) = omega (arith, c.if-k-taken.true, length-map taken part) in
    put_found c.args.i slot 0 rise.0 k free (rows_of batch taken) rise.1 there.0 there.1 has
    ∙ ap Some (get_or-map part taken k 0 [] c.if-k-taken.true ∙ sym (c.as_slice.ensures ∙ c.index-batch-taken.is ∙ get_or_default batch (slice_index_or taken k 0) c.index-batch-taken.result [] inside))

pub returns-then-k-taken-clause-inside : goal.returns-then-k-taken-clause-inside
returns-then-k-taken-clause-inside c =
    let k = c.in-Ok.k in
    let taken = c.args.taken.now in
    let batch = c.args.batch.now in
    let inside = place_inside (length batch) taken c.requires.places k c.if-k-taken.true in
    (slice_index_or taken k 0, inside, c.as_slice.ensures ∙ c.index-batch-taken.is ∙ get_or_default batch (slice_index_or taken k 0) c.index-batch-taken.result [] inside)

pub returns-else-k-taken-clause-none : goal.returns-else-k-taken-clause-none
returns-else-k-taken-clause-none c = λ slot.
    let k = c.in-Ok.k in
    let free = c.args.free.now in
    let taken = c.args.taken.now in
    let batch = c.args.batch.now in
    let rise = c.requires.rise in
    let part = λ (j : ℕ). slice_index_or batch j [] in
    let there = searched free c.args.i (Ok k) c.in-Ok.ensures.position (rising 0 rise.0 free rise.1) in
    let past : length (rows_of batch taken) ≤ k = omega (arith, c.if-k-taken.false, length-map taken part) in
    put_behind c.args.i slot 0 rise.0 k free (rows_of batch taken) rise.1 there.0 there.1 past

pub returns-in-Err-clause-none : goal.returns-in-Err-clause-none
returns-in-Err-clause-none c = λ slot.
    let e = c.in-Err.field-0 in
    let free = c.args.free.now in
    let rise = c.requires.rise in
    let there = searched free c.args.i (Err e) c.in-Err.ensures.position (rising 0 rise.0 free rise.1) in
    put_absent c.args.i slot free (rows_of c.args.batch.now c.args.taken.now)
    (λ k inside same. elim (cases_lt k e) [
      | inl below ↦ absurd (omega (arith, same, there.1 k below))
      | inr above ↦ absurd (omega (arith, same, there.2 k above inside))
    ])
