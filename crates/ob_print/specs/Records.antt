-- A writer of records that keeps those it wrote, each on a line of its own.
use Rattle.std.specs.Prelude.{◌≡◌, ◌≤◌, ℕ, false, true, [], length, Vec}
use Rattle.std.specs.declared.alloc.Global.{Global}
use Rattle.csv.specs.Writing.{fields_written, has_written, writer_pending, writer_setup, writer_under}
use Rattle.csv.specs.declared.writer.Writer.{Writer}
use Rattle.csv.specs.declared.writer.WriterBuilder.{WriterBuilder}
use Rattle.ob_print.specs.Rows.{always}

-- every field in quotes, and records of any length
abbrev pub of_any_length : WriterBuilder
of_any_length = record always { flexible = true }

-- the last record is ended and the next one isn't begun, and all bytes were handed on
pub record IsBetween {W : Type 0} (w : Writer W) : Type 0 where
  pub setup : writer_setup w ≡ of_any_length
  pub fields : fields_written w ≡ 0
  pub wrote : has_written w ≡ false
  pub pending : writer_pending w ≡ []

-- the last line begins here, after few others
pub record HasLine (from : ℕ) (w : Writer (Vec ℕ Global)) : Type 0 where
  pub between : IsBetween w
  pub within : from ≤ length (writer_under w).items
  pub few : from ≤ 32768
