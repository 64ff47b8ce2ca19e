-- What is printed of the answer of a SELECT: a header and rows of quoted fields, and the number of rows.
use Rattle.std.specs.Prelude.{ℕ, List, [], ◌∷◌, ◌++◌, map, codes, Option}
use Rattle.std.specs.Fmt.{signed_decimal}
use Rattle.csv.specs.Writing.{default_writer, row_text}
use Rattle.csv.specs.declared.writer.QuoteStyle.TheVariants as style
use Rattle.csv.specs.declared.writer.WriterBuilder.{WriterBuilder}
use Rattle.ob_base.specs.Events.{Event, Head, Row, Close}
use Rattle.ob_base.specs.declared.shown.Shown.{Shown}
use Rattle.ob_base.specs.declared.shown.Shown.TheVariants.{Int, Text, Null}
use Rattle.ob_print.specs.Lines.{rows_line}
use Rattle.ob_print.specs.Sent.{Sends, sends_none}

-- every field in quotes
abbrev pub always : WriterBuilder
always = record default_writer { style = style.Always }

-- a cell without its quotes
abbrev pub shown_text : Shown → List ℕ
shown_text (Int n) = signed_decimal n
shown_text (Text text) = text
shown_text Null = codes "NULL"

abbrev pub event_text : Event → List ℕ
event_text (Head labels) = row_text always labels
event_text (Row cells) = row_text always (map shown_text cells)
event_text (Close k) = rows_line k

unfoldable pub events_text : List Event → List ℕ
events_text [] = []
events_text (e ∷ es) = event_text e ++ events_text es

-- the text of these events came after what waited for a sink
abbrev pub Printed : (written0 written1 : Option (List ℕ)) (waiting0 waiting1 : List ℕ)
    → List Event → Type 0
Printed written0 written1 waiting0 waiting1 events =
    Sends written0 written1 waiting0 waiting1 ⊥ (events_text events)

pub printed_none : (written : Option (List ℕ)) (waiting : List ℕ)
    → Printed written written waiting waiting []
unfolding events_text
printed_none written waiting = sends_none written waiting

-- a first part of it came, and the rest was lost
abbrev pub PrintedCut : (written0 written1 : Option (List ℕ)) (waiting0 waiting1 : List ℕ)
    → List Event → Type 0
PrintedCut written0 written1 waiting0 waiting1 events =
    Sends written0 written1 waiting0 waiting1 (Unit {0}) (events_text events)
