use Rattle.std.proofs.Common.{◌≡◌, ◌≤◌, List, length}
use Rattle.ob_row.specs.Rows.{Row}
use Rattle.ob_row.specs.Slots.{Slots}
use Rattle.ob_mutate.specs.Batches.{AreKept, AreNotes, ArePlaces, Foresees}
use Rattle.ob_mutate.proofs.Served.{AreServed}
use Rattle.ob_mutate.proofs.admitting.admit_rows.Given as goal

abbrev pub invariant-loop-i : goal.invariant-loop-i
invariant-loop-i l =
    record {
      size : length l.out ≡ length l.initial.out;
      are : AreNotes l.kept l.notes;
      free : l.notes.free ≡ l.initial.notes.free;
      few : length l.notes.taken ≤ l.i;
      room : length l.notes.taken ≤ length l.notes.free;
      places : ArePlaces (length l.kept) l.notes.taken;
      told : (batch : List Row) (slots : Slots) → AreKept l.schema batch l.kept → length l.initial.out ≡ length l.kept → Foresees l.schema l.kept l.initial.notes slots
          → (now : Slots) × Foresees l.schema l.kept l.notes now
          × AreServed l.schema batch slots now l.i l.out l.notes.taken;
    }
