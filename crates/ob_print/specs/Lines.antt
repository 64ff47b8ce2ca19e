-- Lines of the trace, of refusals and of stops.
use Rattle.std.specs.Prelude.{ℕ, List, [], ◌∷◌, ◌++◌, codes, decimal}
use Rattle.ob_base.specs.declared.access.Access.{Access}
use Rattle.ob_base.specs.declared.access.Access.TheVariants.{Make, Read, Write, Discard, Open}
use Rattle.ob_base.specs.declared.refusal.Refusal.{Refusal}
use Rattle.ob_base.specs.declared.refusal.Refusal.TheVariants.{Syntax, NoTable, NameTaken, NoColumn, WrongType, ValueRange, Limit, KeyRule, JoinKey, Duplicate, Full, TooManyGroups, NotConsecutive, Overflow, StoreFault, PadPassed, KeyRange, NeedsKey}
use Rattle.ob_base.specs.declared.refusal.Stop.{Stop}
use Rattle.ob_base.specs.declared.refusal.Stop.TheVariants.{Tampered, SourceFault, SinkFault, NoMemory, InputLimit, StoreFault, StashFull, KeeperFault}

abbrev pub access_line : Access → List ℕ
access_line (Make region blocks len) = codes "M " ++ (decimal region ++ (codes " " ++ (decimal blocks ++ (codes " " ++ (decimal len ++ codes "\n")))))
access_line (Read region place) = codes "R " ++ (decimal region ++ (codes " " ++ (decimal place ++ codes "\n")))
access_line (Write region place) = codes "W " ++ (decimal region ++ (codes " " ++ (decimal place ++ codes "\n")))
access_line (Discard region) = codes "D " ++ (decimal region ++ codes "\n")
access_line (Open region blocks len) = codes "O " ++ (decimal region ++ (codes " " ++ (decimal blocks ++ (codes " " ++ (decimal len ++ codes "\n")))))

unfoldable pub trace_text : List Access → List ℕ
trace_text [] = []
trace_text (access ∷ accesses) = access_line access ++ trace_text accesses

abbrev pub refusal_line : Refusal → List ℕ
refusal_line (Syntax at) = codes "E01 syntax " ++ (decimal at ++ codes "\n")
refusal_line NoTable = codes "E02 no table\n"
refusal_line NameTaken = codes "E03 name taken\n"
refusal_line NoColumn = codes "E04 no column\n"
refusal_line WrongType = codes "E05 wrong type\n"
refusal_line ValueRange = codes "E06 out of range\n"
refusal_line Limit = codes "E07 limit\n"
refusal_line KeyRule = codes "E08 key rule\n"
refusal_line JoinKey = codes "E09 join key\n"
refusal_line Duplicate = codes "E10 duplicate\n"
refusal_line Full = codes "E11 full\n"
refusal_line TooManyGroups = codes "E12 too many groups\n"
refusal_line NotConsecutive = codes "E13 not consecutive\n"
refusal_line (Overflow slot) = codes "E14 overflow " ++ (decimal slot ++ codes "\n")
refusal_line StoreFault = codes "E15 store fault\n"
refusal_line PadPassed = codes "E16 pad passed\n"
refusal_line KeyRange = codes "E17 key range\n"
refusal_line NeedsKey = codes "E18 needs key\n"

-- the number of rows
abbrev pub rows_line : ℕ → List ℕ
rows_line k = codes "= " ++ (decimal k ++ codes " rows\n")

-- after a sink's fault nothing more is written
abbrev pub stop_line : Stop → List ℕ
stop_line (Tampered region place) = codes "! tampered " ++ (decimal region ++ (codes " " ++ (decimal place ++ codes "\n")))
stop_line SourceFault = codes "! source fault\n"
stop_line SinkFault = []
stop_line NoMemory = codes "! no memory\n"
stop_line InputLimit = codes "! input limit\n"
stop_line StoreFault = codes "! store fault\n"
stop_line StashFull = codes "! stash full\n"
stop_line KeeperFault = codes "! keeper fault\n"
