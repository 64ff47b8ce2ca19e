use Rattle.std.proofs.Common.{◌≡◌, ◌==◌, ◌||◌, ◌&&◌, ◌++◌, map, take, not}
use Rattle.csv.specs.Writing.{is_blank, row_body}
use Rattle.ob_print.specs.Records.{of_any_length}
use Rattle.ob_print.proofs.row.write_record.Given as goal

abbrev pub invariant-loop-field : goal.invariant-loop-field
invariant-loop-field g l =
    record {
      setup : l.writer.cfg ≡ of_any_length;
      text :
          l.writer.wtr.inner.items ++ l.writer.wtr.buf
          ≡ l.initial.writer.wtr.inner.items ++ row_body of_any_length (take l.field-index (map g.F.Field.text l.fields));
      count : l.writer.fields ≡ l.field-index;
      blank : is_blank of_any_length (take l.field-index (map g.F.Field.text l.fields)) ≡ (not l.writer.wrote && ((l.field-index == 0) || (l.field-index == 1)));
    }
