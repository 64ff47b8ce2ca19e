-- What the reading pass of a batch has noted.
use Rattle.std.proofs.Common.{◌≡◌, ◌<◌, ◌≤◌, ◌+◌, ◌==◌, ◌^◌, ◌++◌, ℕ, Bool, true, false, nat_lt, if◌then◌else◌, List, [], ◌∷◌, Some, length, length-append, slice_index_or, refl, sym, ◌∙◌, ap, subst, arith}
use Rattle.std.proofs.lemmas.Bool.Decides.{nat_tests}
use Rattle.std.proofs.lemmas.List.{length-replicate}
use Rattle.ob_base.specs.Schemas.{Columns}
use Rattle.ob_order.specs.Orders.{is_marked}
use Rattle.ob_vault.specs.Rows.{row_at}
use Rattle.ob_row.specs.Rows.{Row}
use Rattle.ob_row.specs.Spelling.{Begins}
use Rattle.ob_row.proofs.PlaceLemmas.{begun}
use Rattle.ob_mutate.specs.Batches.{AreAscending, AreKept, AreNotes, AreRows, MayRise, NotesState, note_free, start_notes}

-- a row's bytes have the mark
marked_row : (columns : Columns) (row : Row) (bytes : List ℕ) → Begins columns (Some row) bytes → is_marked bytes ≡ true
marked_row columns row bytes begins = ap (λ (l : List ℕ). slice_index_or l 0 0 == 1) (begun columns row bytes begins)

pub rows_marked : (columns : Columns) (kept : List (List ℕ)) → AreRows columns kept → (q : ℕ) → q < length kept → is_marked (slice_index_or kept q []) ≡ true
rows_marked columns kept are q inside = let is = are.each q inside in marked_row columns is.0 (row_at kept q) is.1

pub kept_rows : (columns : Columns) (batch : List Row) (kept : List (List ℕ)) → AreKept columns batch kept → AreRows columns kept
kept_rows columns batch kept are = record { each = λ j inside. (slice_index_or batch j [], are.each j inside) }

-- numbers that rise go on with a greater one
pub ascending_push : (from below i : ℕ) (is : List ℕ) → AreAscending from below is → below ≤ i → AreAscending from (i + 1) (is ++ i ∷ [])
ascending_push from below i [] rise less = (omega (arith, rise, less), omega arith)
ascending_push from below i (j ∷ is) rise less = (rise.0, ascending_push (j + 1) below i is rise.1 less)

test_less : (i n : ℕ) → nat_lt i n ≡ true → i < n
test_less i n is = grind (arith, nat_tests)

-- one more free slot
pub record StayNotes (i capacity : ℕ) (kept : List (List ℕ)) (n : NotesState) : Type 0 where
  pub are : AreNotes kept n
  pub none : n.taken ≡ []
  pub rises : MayRise (i + 1) capacity n.free

pub noted_more : (i capacity : ℕ) (kept : List (List ℕ)) (n : NotesState) → i < capacity → AreNotes kept n → n.taken ≡ [] → MayRise i capacity n.free → StayNotes i capacity kept (note_free i n)
noted_more i capacity kept n inside are none rises = go (nat_lt (length n.free) n.most) refl
  where
    go : (b : Bool) → nat_lt (length n.free) n.most ≡ b → StayNotes i capacity kept (if b then record n { free = n.free ++ i ∷ [] } else n)
    go true is = record {
      are = record { there = are.there; most = are.most; few = omega (arith, length-append n.free (i ∷ []), test_less (length n.free) n.most is); fit = are.fit };
      none = none;
      rises = record { below = i + 1; seen_by = omega arith; within = omega (arith, inside); rise = ascending_push 0 rises.below i n.free rises.rise rises.seen_by };
    }
    go false is = record { are = are; none = none; rises = record { below = rises.below; seen_by = omega (arith, rises.seen_by); within = rises.within; rise = rises.rise } }

-- at first
pub start_are : (kept : List (List ℕ)) (n : NotesState) → n ≡ start_notes (length kept) → length kept < 2 ^ 32 → AreNotes kept n
start_are kept n is few = record {
  there = ap (λ (m : NotesState). length m.there) is ∙ length-replicate (length kept) false;
  most = ap (λ (m : NotesState). m.most) is;
  few = omega (arith, ap (λ (m : NotesState). length m.free) is);
  fit = subst (λ (k : ℕ). k < 2 ^ 32) (sym (ap (λ (m : NotesState). m.most) is)) few;
}

pub start_rise : (kept : List (List ℕ)) (capacity : ℕ) (n : NotesState) → n ≡ start_notes (length kept) → MayRise 0 capacity n.free
start_rise kept capacity n is = subst (λ (m : NotesState). MayRise 0 capacity m.free) (sym is) (record { below = 0; seen_by = omega arith; within = omega arith; rise = omega arith })
